-- What stands at the head of a text that isn't empty: a gap (white space or a comment) or a token of some kind.
use Rattle.std.specs.Prelude.{ℕ, Bool, false, ◌&&◌, ◌==◌, ◌+◌, not, if◌then◌else◌, List, Option, Some, None, length, take, drop, slice_index}
use Rattle.std.specs.List.{prefix_len, list_all}
use Rattle.std.specs.Str.{is_utf8}
use Rattle.sql_tokens.specs.declared.token.Kind.{Kind}
use Rattle.sql_tokens.specs.declared.token.Kind.TheVariants as kind
use Rattle.sql_tokens.specs.declared.pieces.Piece.{Piece}
use Rattle.sql_tokens.specs.declared.pieces.Opening.{Opening}
use Rattle.sql_tokens.specs.declared.pieces.Opening.TheVariants as begin
use Rattle.sql_tokens.specs.Bytes.{is_blank, is_digit, is_letter, is_word, is_printable, is_in_line}
use Rattle.sql_tokens.specs.Lengths.{quoted, commented, digits, fraction, exponent}

abbrev pub gap : ℕ → Piece
gap n = record { kind = None; len = n }

abbrev pub one : Kind → ℕ → Piece
one k n = record { kind = Some k; len = n }

-- A quotation with the whole of its text tested, bad where it fails or isn't closed.
abbrev pub closed : Kind → (List ℕ → Bool) → List ℕ → Option ℕ → Piece
closed k good text None = one kind.Bad (length text)
closed k good text (Some n) = one (if good (take (1 + n) text) then k else kind.Bad) (1 + n)

abbrev pub comment : List ℕ → Option ℕ → Piece
comment text None = one kind.Bad (length text)
comment text (Some n) = gap (2 + n)

-- A numeral by the lengths of its parts and the byte after its digits.
abbrev pub number_of : ℕ → ℕ → ℕ → ℕ → Piece
number_of whole point power next =
    if not (point + power == 0) then one kind.Fraction (whole + point + power)
    else one (if is_letter next then kind.Bad else kind.Numeral) whole

abbrev pub number : List ℕ → Piece
number text =
    let whole = digits text in
    let point = fraction (drop whole text) in
    number_of whole point (exponent (drop (whole + point) text)) (slice_index text whole)

-- A sign by its first two bytes, the longest that fits.
abbrev pub sign : ℕ → ℕ → Piece
sign a b =
    if a == 60 && b == 62 then one kind.NotEqual 2
    else if a == 33 && b == 61 then one kind.NotEqual 2
    else if a == 60 && b == 61 then one kind.AtMost 2
    else if a == 62 && b == 61 then one kind.AtLeast 2
    else if a == 124 && b == 124 then one kind.Join 2
    else if a == 40 then one kind.Open 1
    else if a == 41 then one kind.Close 1
    else if a == 44 then one kind.Comma 1
    else if a == 46 then one kind.Dot 1
    else if a == 59 then one kind.Semicolon 1
    else if a == 61 then one kind.Equal 1
    else if a == 60 then one kind.Less 1
    else if a == 62 then one kind.Greater 1
    else if a == 43 then one kind.Plus 1
    else if a == 45 then one kind.Minus 1
    else if a == 42 then one kind.Times 1
    else one kind.Bad 1

-- what a piece is by its first two bytes
abbrev pub opens : ℕ → ℕ → Opening
opens a b =
    if is_blank a then begin.Space
    else if a == 45 && b == 45 then begin.Line
    else if a == 47 && b == 42 then begin.Block
    else if is_letter a then begin.Letter
    else if is_digit a then begin.Digit
    else if a == 34 then begin.Double
    else if a == 39 then begin.Single
    else begin.Other

-- and how far it goes
abbrev pub piece_of : Opening → List ℕ → Piece
piece_of begin.Space text = gap (prefix_len is_blank text)
piece_of begin.Line text = gap (prefix_len is_in_line text)
piece_of begin.Block text = comment text (commented false (drop 2 text))
piece_of begin.Letter text = one kind.Word (prefix_len is_word text)
piece_of begin.Digit text = number text
piece_of begin.Double text = closed kind.Name (list_all is_printable) text (quoted 34 false (drop 1 text))
piece_of begin.Single text = closed kind.Text is_utf8 text (quoted 39 false (drop 1 text))
piece_of begin.Other text = sign (slice_index text 0) (slice_index text 1)

unfoldable pub piece : List ℕ → Piece
piece text = piece_of (opens (slice_index text 0) (slice_index text 1)) text
