use Rattle.std.proofs.Common.{ap, ◌∙◌, ◌∷◌, ◌++◌, []}
use Rattle.grammar.specs.Threads.{symbols}
use Rattle.grammar.specs.declared.machine.Stack.{Stack}
use Rattle.grammar.proofs.reader.begin.Goals as goal

pub returns : goal.returns
returns c = (
  _,
  c.in_ok-push.ensures.items ∙ ap (λ xs. xs ++ record { stack = c.in_ok-stack.stack; log = c.new-3.result } ∷ []) c.new-threads.ensures.items,
  c.new-3.ensures.items,
  ap symbols c.in_ok-stack.ensures.ok ∙ ap (λ (s : Stack). record { id = c.args.start; depth = 0; count = 0 } ∷ symbols s) c.in_ok-bottom.ensures.ok,
)
