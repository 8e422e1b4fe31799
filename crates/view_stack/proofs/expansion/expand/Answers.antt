use Rattle.view_stack.proofs.Kept.{keeps}
use Rattle.view_stack.proofs.expansion.expand.Goals as goal

pub returns-clause-no_view : goal.returns-clause-no_view
returns-clause-no_view c = (keeps c.args.cat.now c.args.rel.now c.in_ok-expanded_rel.field-0 c.is_well_formed.ensures.stacked c.requires.named (cc c.in_ok-expanded_rel.ensures)).none

pub returns-clause-rows : goal.returns-clause-rows
returns-clause-rows c = (keeps c.args.cat.now c.args.rel.now c.in_ok-expanded_rel.field-0 c.is_well_formed.ensures.stacked c.requires.named (cc c.in_ok-expanded_rel.ensures)).rows

pub returns-clause-nodes : goal.returns-clause-nodes
returns-clause-nodes c = (keeps c.args.cat.now c.args.rel.now c.in_ok-expanded_rel.field-0 c.is_well_formed.ensures.stacked c.requires.named (cc c.in_ok-expanded_rel.ensures)).nodes

pub returns-clause-depth : goal.returns-clause-depth
returns-clause-depth c = (keeps c.args.cat.now c.args.rel.now c.in_ok-expanded_rel.field-0 c.is_well_formed.ensures.stacked c.requires.named (cc c.in_ok-expanded_rel.ensures)).depth
