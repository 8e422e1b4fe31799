-- The texts of the lanes' names, by their places.
use Rattle.std.proofs.Common.{◌≡◌, ℕ, zero, suc, List, [], ◌∷◌, Some, None, slice_index_or, refl, ap}
use Rattle.std.specs.List.{slice_get}
use Rattle.vdb_model.specs.NameText.{name_text}
use Rattle.vdb.specs.declared.words.Conn.{Conn}
use Rattle.vdb.specs.Ending.{lane_texts}

same_conn : (a b : Conn) → Some a ≡ Some b → a ≡ b
same_conn a b e = cc

pub text_there : (conns : List Conn) (at : ℕ) (conn : Conn) → slice_get conns at ≡ Some conn → slice_index_or (lane_texts conns) at [] ≡ name_text conn.name
text_there [] at conn e = cc
text_there (c ∷ cs) zero conn e = ap (λ (x : Conn). name_text x.name) (same_conn c conn e)
text_there (c ∷ cs) (suc at) conn e = text_there cs at conn e

pub text_nowhere : (conns : List Conn) (at : ℕ) → slice_get conns at ≡ None → slice_index_or (lane_texts conns) at [] ≡ []
text_nowhere [] at e = refl
text_nowhere (c ∷ cs) zero e = cc
text_nowhere (c ∷ cs) (suc at) e = text_nowhere cs at e
