use Rattle.std.proofs.Common.{◌≡◌, ◌∙◌, ℕ, Bool, true, false, List, Some, sym, ap, subst}
use Rattle.std.specs.List.{list_any}
use Rattle.vdb_model.specs.declared.reply.DeployFault.TheVariants.{Duplicate}
use Rattle.vdb_model.specs.NameText.{name_text}
use Rattle.metadata.specs.Columns.{takes_name}
use Rattle.metadata.specs.Tests.{fails_if}
use Rattle.metadata.proofs.TakenNames.{takes_is}
use Rattle.metadata.proofs.parts.free_column.Goals as goal

pub returns-then-branch : goal.returns-then-branch
returns-then-branch c = λ before are known.
    let name = c.args.name.now.text in
    let takes = sym (takes_is c.args.taken.now before are c.args.apart name c.in_ok-source.source) ∙ sym c.in_ok-takes.ensures ∙ c.if-branch.true in
    ap (λ (b : Bool). fails_if b (Duplicate (name_text name))) (subst (λ (source : List ℕ). list_any (takes_name c.args.apart name source) before ≡ true) c.in_ok-source.ensures takes)
    ∙ ap (λ (text : List ℕ). Some (Duplicate text)) (sym c.in_ok-name.ensures)

pub returns : goal.returns
returns c = λ before are.
    let name = c.args.name.now.text in
    let takes = sym (takes_is c.args.taken.now before are c.args.apart name c.in_ok-source.source) ∙ sym c.in_ok-takes.ensures ∙ c.if-branch.false in
    ap (λ (b : Bool). fails_if b (Duplicate (name_text name))) (subst (λ (source : List ℕ). list_any (takes_name c.args.apart name source) before ≡ false) c.in_ok-source.ensures takes)
