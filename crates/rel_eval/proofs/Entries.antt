-- Entries by keys of rows: what is found after one more, and the keys in turn.
use Rattle.std.proofs.Common.{◌≡◌, ◌∙◌, Bool, true, false, true≢false, ◌||◌, List, [], ◌∷◌, ◌++◌, None, Some, is_some, cond, if◌then◌else◌, refl, sym, ap}
use Rattle.std.specs.List.{list_any}
use Rattle.std.specs.Map.{keys_of, lookup, set_value}
use Rattle.vdb_model.specs.Rows.{Cells, same_row}
use Rattle.vdb_model.proofs.SameDistinct.{equal_rows}
use Rattle.rel_eval.proofs.KeepFirst.{same_row-sym}
use Rattle.rel_eval.specs.declared.row_key.RowKey.{RowKey}
use Rattle.rel_eval.specs.RowKeys.{cells, cells_of}

abbrev pub test : Cells → RowKey → Bool
test q key = same_row q (cells key)

-- a row that is the same as another is found alike
alike : (p q r : Cells) → same_row p q ≡ true → same_row p r ≡ same_row q r
alike p q r e = ap (λ z. same_row z r) (equal_rows p q e)

module _ {X : Type 0} (p : Cells) where
  -- one entry has another value
  pub found_after_set : (es : List (RowKey × X)) (w : X) (q : Cells) → is_some (lookup (test p) es) ≡ true → lookup (test q) (set_value (test p) es w) ≡ cond (same_row p q) (Some w) (lookup (test q) es)
  found_after_set [] w q some = absurd (true≢false (sym some))
  found_after_set (e ∷ es) w q some = at (same_row p (cells e.0)) (same_row q (cells e.0)) (same_row p q) refl refl refl (found_after_set es w q)
    where
      at : (a b c : Bool) → same_row p (cells e.0) ≡ a → same_row q (cells e.0) ≡ b → same_row p q ≡ c
          → (is_some (lookup (test p) es) ≡ true → lookup (test q) (set_value (test p) es w) ≡ cond (same_row p q) (Some w) (lookup (test q) es))
          → lookup (test q) (set_value (test p) (e ∷ es) w) ≡ cond (same_row p q) (Some w) (lookup (test q) (e ∷ es))
      at true true true f g h rest = rw (f, g, h) refl
      at true true false f g h rest = absurd (true≢false (sym (ap (same_row p) (equal_rows q (cells e.0) g) ∙ f) ∙ h))
      at true false true f g h rest = absurd (true≢false (sym f ∙ alike p q (cells e.0) h ∙ g))
      at true false false f g h rest = rw (f, g, h) refl
      at false true true f g h rest = absurd (true≢false (sym g ∙ sym (alike p q (cells e.0) h) ∙ f))
      at false true false f g h rest = rw (f, g, h) refl
      at false false true f g h rest = rw (f, g) (rest (rw f at some))
      at false false false f g h rest = rw (f, g) (rest (rw f at some))

  -- one entry is new
  pub found_after_new : (es : List (RowKey × X)) (key : RowKey) (w : X) (q : Cells) → cells key ≡ p → lookup (test p) es ≡ None → lookup (test q) (es ++ (key, w) ∷ []) ≡ cond (same_row p q) (Some w) (lookup (test q) es)
  found_after_new [] key w q is none = ap (λ b. cond b (Some w) None) (ap (same_row q) is ∙ same_row-sym q p)
  found_after_new (e ∷ es) key w q is none = at (same_row p (cells e.0)) (same_row q (cells e.0)) (same_row p q) refl refl refl (found_after_new es key w q is)
    where
      at : (a b c : Bool) → same_row p (cells e.0) ≡ a → same_row q (cells e.0) ≡ b → same_row p q ≡ c
          → (lookup (test p) es ≡ None → lookup (test q) (es ++ (key, w) ∷ []) ≡ cond (same_row p q) (Some w) (lookup (test q) es))
          → lookup (test q) ((e ∷ es) ++ (key, w) ∷ []) ≡ cond (same_row p q) (Some w) (lookup (test q) (e ∷ es))
      at true b c f g h rest = absurd (true≢false (ap is_some (rw f at none)))
      at false true true f g h rest = absurd (true≢false (sym g ∙ sym (alike p q (cells e.0) h) ∙ f))
      at false true false f g h rest = rw (g, h) refl
      at false false c f g h rest = rw g (rest (rw f at none))

  -- whether there is an entry
  pub is_among : (es : List (RowKey × X)) → list_any (same_row p) (cells_of (keys_of es)) ≡ is_some (lookup (test p) es)
  is_among [] = refl
  is_among (e ∷ es) = at (same_row p (cells e.0)) refl (is_among es)
    where
      at : (b : Bool) → same_row p (cells e.0) ≡ b → list_any (same_row p) (cells_of (keys_of es)) ≡ is_some (lookup (test p) es) → (same_row p (cells e.0) || list_any (same_row p) (cells_of (keys_of es))) ≡ is_some (cond (same_row p (cells e.0)) (Some e.1) (lookup (test p) es))
      at true f rest = rw f refl
      at false f rest = rw f rest

pub one_more_key : {X : Type 0} (es : List (RowKey × X)) (key : RowKey) (w : X) → cells_of (keys_of (es ++ (key, w) ∷ [])) ≡ cells_of (keys_of es) ++ cells key ∷ []
one_more_key [] key w = refl
one_more_key (e ∷ es) key w = ap (λ z. cells e.0 ∷ z) (one_more_key es key w)

module _ {X : Type 0} (es fs : List (RowKey × X)) where
  -- the keys stay where the key is among them
  pub keys_kept : (p : Cells) → is_some (lookup (test p) es) ≡ true → keys_of fs ≡ keys_of es
      → cells_of (keys_of fs) ≡ (if list_any (same_row p) (cells_of (keys_of es)) then cells_of (keys_of es) else cells_of (keys_of es) ++ p ∷ [])
  keys_kept p some same = rw (is_among p es ∙ some) (ap cells_of same)

  -- a new key goes last
  pub keys_more : (key : RowKey) (w : X) → lookup (test (cells key)) es ≡ None → fs ≡ es ++ (key, w) ∷ []
      → cells_of (keys_of fs) ≡ (if list_any (same_row (cells key)) (cells_of (keys_of es)) then cells_of (keys_of es) else cells_of (keys_of es) ++ cells key ∷ [])
  keys_more key w none more = rw (is_among (cells key) es ∙ ap is_some none) (ap (λ z. cells_of (keys_of z)) more ∙ one_more_key es key w)
