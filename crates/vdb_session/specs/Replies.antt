-- The replies of a script's statements, in turn.
use Rattle.std.specs.Prelude.{◌≡◌, List, [], ◌∷◌, ◌++◌, length, Option, ⊤, ℕ}
use Rattle.vdb_model.specs.declared.reply.Reply.{Reply}
use Rattle.vdb_model.specs.Defined.{Defined}
use Rattle.vdb_model.specs.ReplyText.{reply_text}
use Rattle.vdb_model.specs.Rows.{Cells}
use Rattle.vdb_session.specs.Meaning.{Done}
use Rattle.vdb_session.specs.Script.{Piece}

-- replies to the first of these statements, one each
abbrev pub Replies : Defined → Option (List (List Cells)) → List Piece → List Reply → Type 0
Replies cat world pieces [] = ⊤
Replies cat world [] (r ∷ rs) = ⊥
Replies cat world (p ∷ ps) (r ∷ rs) = Done cat world p r × Replies cat world ps rs

-- one reply to each of these statements, and no other
abbrev pub RepliesToAll : Defined → Option (List (List Cells)) → List Piece → List Reply → Type 0
RepliesToAll cat world pieces replies = Replies cat world pieces replies × (length replies ≡ length pieces)

-- the lines of the replies, in turn
abbrev pub replies_text : List Reply → List ℕ
replies_text [] = []
replies_text (r ∷ rs) = reply_text r ++ replies_text rs
