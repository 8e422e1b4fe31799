use Rattle.std.proofs.Common.{◌≡◌, List, ℕ, Some, true, refl, ap}
use Rattle.std.specs.Str.{is_utf8}
use Rattle.std.proofs.lemmas.Str.{IsUtf8-string_bytes}
use Rattle.sql_tokens.specs.Parts.{text_of}
use Rattle.sql_tokens.proofs.Utf8.{utf8_yes}
use Rattle.sql_tokens.proofs.parts.text_of.Goals as goal

-- the bytes of a string are text
read : (text bytes : List ℕ) → text ≡ bytes → is_utf8 text ≡ true → Some text ≡ text_of bytes
read text bytes same good = rw (← same, good) refl

pub returns-in-Ok : goal.returns-in-Ok
returns-in-Ok c =
    let made = IsUtf8-string_bytes c.in-Ok.text in
    rw c.from_string.ensures (read _ _ (ap (λ v. v.items) c.in-Ok.ensures.ok) (utf8_yes _ made))
