-- The lines of a reply.
use Rattle.std.specs.Prelude.{ℕ, List, [], ◌∷◌, ◌++◌, length, codes}
use Rattle.vdb_base.specs.declared.value.Value.{Value}
use Rattle.vdb_base.specs.Print.{value_text}
use Rattle.vdb_model.specs.declared.reply.Reply.{Reply}
use Rattle.vdb_model.specs.declared.reply.Reply.TheVariants.{Rows, Updated, Done, Started, Committed, RolledBack, Asked, Refused, Memory}
use Rattle.vdb_model.specs.Lines.{line, number_text}
use Rattle.vdb_model.specs.NameText.{name_text}
use Rattle.vdb_model.specs.RefusalText.{refusal_line}

-- texts with commas between them
abbrev pub after_commas : List (List ℕ) → List ℕ
after_commas [] = []
after_commas (text ∷ texts) = 44 ∷ text ++ after_commas texts

-- a word, and then the texts, where there are any
abbrev pub listed : List ℕ → List (List ℕ) → List ℕ
listed word [] = word
listed word (text ∷ texts) = word ++ 32 ∷ text ++ after_commas texts

abbrev pub name_texts : List (List ℕ) → List (List ℕ)
name_texts [] = []
name_texts (name ∷ names) = name_text name ∷ name_texts names

abbrev pub value_texts : List Value → List (List ℕ)
value_texts [] = []
value_texts (v ∷ vs) = value_text v ∷ value_texts vs

abbrev pub row_line : List Value → List ℕ
row_line row = line (listed (codes "ROW") (value_texts row))

abbrev pub row_lines : List (List Value) → List ℕ
row_lines [] = []
row_lines (row ∷ rows) = row_line row ++ row_lines rows

abbrev pub ask_lines : List (List ℕ) → List ℕ
ask_lines [] = []
ask_lines (ask ∷ asks) = line (codes "ASK " ++ ask) ++ ask_lines asks

abbrev pub end_line : ℕ → List ℕ
end_line count = line (codes "END " ++ number_text count)

abbrev pub reply_text : Reply → List ℕ
reply_text (Rows names rows) = line (listed (codes "COLUMNS") (name_texts names)) ++ row_lines rows ++ end_line (length rows)
reply_text (Updated count) = line (codes "UPDATED " ++ number_text count)
reply_text Done = line (codes "DONE")
reply_text Started = line (codes "STARTED")
reply_text Committed = line (codes "COMMITTED")
reply_text RolledBack = line (codes "ROLLED BACK")
reply_text (Asked asks count) = ask_lines asks ++ end_line count
reply_text (Refused refusal) = refusal_line refusal
reply_text Memory = line (codes "MEMORY")
