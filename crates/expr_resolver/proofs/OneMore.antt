-- Lists of operands, one element more.
use Rattle.std.proofs.Common.{◌≡◌, ◌++◌, List, [], ◌∷◌, ap, refl}
use Rattle.expr_resolver.specs.declared.known.Known.{Known}
use Rattle.expr_resolver.specs.declared.known.KnownArm.{KnownArm}
use Rattle.expr_resolver.specs.Operators.{exprs_of, arms_of}

pub exprs_more : (ks : List Known) (k : Known) → exprs_of (ks ++ k ∷ []) ≡ exprs_of ks ++ k.expr ∷ []
exprs_more [] k = refl
exprs_more (j ∷ ks) k = ap (λ es. j.expr ∷ es) (exprs_more ks k)

pub arms_more : (arms : List KnownArm) (arm : KnownArm) → arms_of (arms ++ arm ∷ []) ≡ arms_of arms ++ record { when = arm.condition.expr; gives = arm.value.expr } ∷ []
arms_more [] arm = refl
arms_more (a ∷ arms) arm = ap (λ z. record { when = a.condition.expr; gives = a.value.expr } ∷ z) (arms_more arms arm)
