-- The frame of a payload, for callers of `append`.
use Rattle.std.proofs.Common.{◌≡◌, ℕ, List, [], ◌∷◌, length, take, drop, sym, ◌∙◌, ap, arith, length-append}
use Rattle.std.proofs.lemmas.List.{take_at}
use Rattle.gate_log.specs.Records.{body}
use Rattle.gate_log.specs.Appending.{framed, payload_of, IsFrame}
use Rattle.gate_log.proofs.Records.{length-body, behind-body}

pub payload_of-framed : (payload : List ℕ) → payload_of (framed payload) ≡ payload
payload_of-framed payload =
    ap (λ n. take n (drop 4 (framed payload))) (omega (arith, length-append (body payload) (0 ∷ []), length-body payload))
    ∙ ap (take (length payload)) (behind-body payload (0 ∷ []))
    ∙ take_at payload (0 ∷ []) (length payload) (omega arith)

pub IsFrame-framed : (payload frame : List ℕ) → frame ≡ framed payload → IsFrame frame
IsFrame-framed payload frame e = e ∙ ap framed (sym (ap payload_of e ∙ payload_of-framed payload))
