-- Worked rows, by computing.
use Rattle.std.proofs.Common.{◌≡◌, ℕ, ◌++◌, List, [], ◌∷◌, Some, None, pos, refl, true, false}
use Rattle.std.specs.Prelude.{codes}
use Rattle.std.specs.Fmt.{digits}
use Rattle.vdb_base.specs.declared.value.Value.{Value}
use Rattle.vdb_base.specs.declared.value.Value.TheVariants.{Null, Bool as Truth, Num, Str}
use Rattle.vdb_model.specs.declared.expr.CmpOp.TheVariants.{Eq}
use Rattle.vdb_model.specs.declared.reply.Reply.TheVariants.{Rows}
use Rattle.vdb_model.specs.declared.reply.Refusal.TheVariants.{DuplicateKey, BudgetSpent}
use Rattle.vdb_model.specs.declared.reply.DeployFault.TheVariants.{BadCell, BadStore}
use Rattle.vdb_model.specs.declared.reply.Who.TheVariants.{Lane}
use Rattle.vdb_model.specs.declared.reply.Phase.TheVariants.{Undecided}
use Rattle.vdb_model.specs.Logic.{compared, is_in, all_of, any_of}
use Rattle.vdb_model.specs.Words.{is_like}
use Rattle.vdb_model.specs.Rows.{Cells, distinct_rows, cut_rows}
use Rattle.vdb_model.specs.Groups.{key_lists, members, sum_of, min_of, max_of}
use Rattle.vdb_model.specs.Arranged.{arranged}
use Rattle.vdb_model.specs.Lines.{number_text}
use Rattle.vdb_model.specs.NameText.{name_text, column_text}
use Rattle.vdb_model.specs.RefusalText.{refusal_line}
use Rattle.vdb_model.specs.ReplyText.{reply_text}
use Rattle.vdb_model.specs.FaultText.{deploy_line, fault_line}

abbrev num : ℕ → Value
num n = Num (pos n)

-- orders of a shop: their number, their customer and a quantity
abbrev orders : List Cells
orders = (num 10 ∷ num 1 ∷ num 5 ∷ []) ∷ (num 11 ∷ num 1 ∷ num 7 ∷ []) ∷ (num 12 ∷ Null ∷ num 1 ∷ []) ∷ (num 13 ∷ num 2 ∷ num 0 ∷ []) ∷ []

-- an unknown customer is a group of its own
customers_group : key_lists (1 ∷ []) orders ≡ (num 1 ∷ []) ∷ (Null ∷ []) ∷ (num 2 ∷ []) ∷ []
customers_group = refl

first_customer : members (1 ∷ []) (num 1 ∷ []) orders ≡ (num 10 ∷ num 1 ∷ num 5 ∷ []) ∷ (num 11 ∷ num 1 ∷ num 7 ∷ []) ∷ []
first_customer = refl

quantities : sum_of (num 5 ∷ num 7 ∷ []) ≡ num 12
quantities = refl

no_quantities : sum_of [] ≡ Null
no_quantities = refl

least_and_greatest : (min_of (num 5 ∷ num 1 ∷ num 7 ∷ []) ≡ num 1) × (max_of (num 5 ∷ num 1 ∷ num 7 ∷ []) ≡ num 7)
least_and_greatest = (refl, refl)

distinct_customers : distinct_rows (cut_rows (1 ∷ []) orders) ≡ (num 1 ∷ []) ∷ (Null ∷ []) ∷ (num 2 ∷ []) ∷ []
distinct_customers = refl

-- by the customer downwards, the first two
latest : arranged (record { column = 1; desc = true } ∷ []) 0 (Some 2) (cut_rows (0 ∷ 1 ∷ []) orders) ≡ (num 13 ∷ num 2 ∷ []) ∷ (num 10 ∷ num 1 ∷ []) ∷ []
latest = refl

-- the unknown: it equals nothing, decides no AND with a TRUE and no OR with a FALSE
unknown : (compared Eq Null Null ≡ Null) × (all_of (Truth true ∷ Null ∷ []) ≡ Null) × (all_of (Truth false ∷ Null ∷ []) ≡ Truth false) × (any_of (Truth true ∷ Null ∷ []) ≡ Truth true)
unknown = (refl, refl, refl, refl)

in_lists : (is_in (num 1) (num 2 ∷ Null ∷ []) ≡ Null) × (is_in (num 2) (num 2 ∷ Null ∷ []) ≡ Truth true) × (is_in (num 1) (num 2 ∷ []) ≡ Truth false)
in_lists = (refl, refl, refl)

-- `_` is one character, also one of two bytes
like : (is_like (codes "a%c") (codes "abbc") ≡ true) × (is_like (codes "_") (195 ∷ 169 ∷ []) ≡ true) × (is_like (codes "_") (codes "ab") ≡ false)
like = (refl, refl, refl)

names : (name_text (codes "cust") ≡ codes "cust") × (name_text (codes "a b") ≡ 34 ∷ codes "a b" ++ 34 ∷ []) × (column_text (codes "c") (codes "cust") (codes "id") ≡ codes "c.cust.id")
names = (refl, refl, refl)

key_stands_twice : refusal_line (DuplicateKey (codes "o.orders")) ≡ codes "REFUSED 11 o.orders" ++ 10 ∷ []
unfolding number_text digits
key_stands_twice = refl

budget : refusal_line BudgetSpent ≡ codes "REFUSED 15" ++ 10 ∷ []
unfolding number_text digits
budget = refl

bad_cell : deploy_line (BadCell (codes "ref") (codes "r.price") 2 2) ≡ codes "DEPLOY 41 ref r.price 2 2" ++ 10 ∷ []
unfolding number_text digits
bad_cell = refl

bad_journal : deploy_line (BadStore (codes "journal") None) ≡ codes "DEPLOY 42 journal 0" ++ 10 ∷ []
unfolding number_text digits
bad_journal = refl

second_lane : fault_line (codes "crm" ∷ codes "ord" ∷ []) (Lane 1) Undecided ≡ codes "FAULT ord undecided" ++ 10 ∷ []
second_lane = refl

bobs : reply_text (Rows (codes "id" ∷ codes "name" ∷ []) ((num 2 ∷ Str (codes "Bob") ∷ []) ∷ []))
    ≡ (codes "COLUMNS id,name" ++ 10 ∷ []) ++ (codes "ROW 2,'Bob'" ++ 10 ∷ []) ++ (codes "END 1" ++ 10 ∷ [])
unfolding number_text digits
bobs = refl
