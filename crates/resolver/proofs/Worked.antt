-- Worked statements, by computing. Places are those of the statements as they stand above each.
use Rattle.std.proofs.Common.{◌≡◌, ℕ, ◌+◌, ◌++◌, List, [], ◌∷◌, Option, Some, None, Result, Ok, Err, pos, refl, true, false}
use Rattle.std.specs.Prelude.{codes}
use Rattle.std.specs.Fmt.{digits}
use Rattle.vdb_base.specs.declared.value.Value.TheVariants.{Null, Bool as Truth, Num, Str}
use Rattle.vdb_base.specs.declared.value.Ty.TheVariants.{Boolean, Integer, Long, BigInteger, Str as Text}
use Rattle.vdb_model.specs.declared.expr.ArithOp.TheVariants as arith
use Rattle.vdb_model.specs.declared.expr.CmpOp.TheVariants.{Eq, Gt}
use Rattle.vdb_model.specs.declared.rel.JoinKind.TheVariants.{Left}
use Rattle.vdb_model.specs.declared.typed.Target.TheVariants as target_of
use Rattle.vdb_model.specs.declared.typed.Typed.TheVariants as typed
use Rattle.sql_reader.specs.declared.tree.query.JoinKind.TheVariants as kind
use Rattle.sql_reader.specs.declared.tree.statement.InsertSource.TheVariants as source
use Rattle.sql_reader.specs.declared.tree.statement.Statement.TheVariants as statement
use Rattle.resolver.specs.Statements.{statement_walk}
use Rattle.vdb_model.specs.declared.expr.Expr as model
use Rattle.vdb_model.specs.declared.expr.Expr.TheVariants as e
use Rattle.vdb_model.specs.declared.rel.Agg.TheVariants as agg
use Rattle.vdb_model.specs.declared.rel.Ranked.{Ranked}
use Rattle.vdb_model.specs.declared.rel.Rel.TheVariants as rel
use Rattle.vdb_model.specs.declared.reply.Refusal.{Refusal}
use Rattle.vdb_model.specs.declared.reply.Refusal.TheVariants.{Unknown, Ambiguous, Mismatch, Fractional, TooWide}
use Rattle.vdb_model.specs.declared.table.ColumnDef.{ColumnDef}
use Rattle.vdb_model.specs.declared.table.TableDef.{TableDef}
use Rattle.vdb_model.specs.Defined.{Defined, nothing_defined}
use Rattle.vdb_model.specs.Lines.{number_text}
use Rattle.vdb_base.specs.declared.value.Ty.{Ty}
use Rattle.sql_reader.specs.declared.tree.expr.Aggregate.TheVariants.{Count, Sum, Min, Max}
use Rattle.sql_reader.specs.declared.tree.expr.Comparison.TheVariants.{Equal, Greater}
use Rattle.sql_reader.specs.declared.tree.expr.Constant.{Constant}
use Rattle.sql_reader.specs.declared.tree.expr.Constant.TheVariants as constant
use Rattle.sql_reader.specs.declared.tree.expr.Expr.{Expr}
use Rattle.sql_reader.specs.declared.tree.expr.Expr.TheVariants.{Literal, Column, Chain, Compare, CountAll, Aggregate}
use Rattle.sql_reader.specs.declared.tree.expr.Operator.TheVariants.{Add}
use Rattle.sql_reader.specs.declared.tree.name.ColumnName.{ColumnName}
use Rattle.sql_reader.specs.declared.tree.name.ColumnName.TheVariants.{Plain, Of}
use Rattle.sql_reader.specs.declared.tree.name.Name.{Name}
use Rattle.sql_reader.specs.declared.tree.query.SelectItem.{SelectItem}
use Rattle.sql_reader.specs.declared.tree.query.SelectItem.TheVariants as item
use Rattle.sql_reader.specs.declared.tree.query.SetQuery.{SetQuery}
use Rattle.sql_reader.specs.declared.tree.query.SetQuery.TheVariants as set
use Rattle.sql_reader.specs.declared.tree.query.TableRef.{TableRef}
use Rattle.sql_reader.specs.declared.tree.query.TableRef.TheVariants as table
use Rattle.sql_reader.specs.declared.tree.query.KeyTarget.TheVariants as target
use Rattle.resolver.specs.Queries.{query_walk}
use Rattle.expr_resolver.proofs.ByKinds.{walk_of_kinds}
use Rattle.resolver.proofs.ItemsByKinds.{aggregate_of_kinds, name_of_kinds}
use Rattle.resolver.proofs.SetsByKinds.{sets_of_kinds}

ruleset worked = (walk_of_kinds, aggregate_of_kinds, name_of_kinds, sets_of_kinds)

abbrev column : List ℕ → Ty → ColumnDef
column name t = record { name = name; source = name; ty = t; not_null = false }

abbrev cust : TableDef
cust = record { number = 0; server = 0; schema = codes "c"; name = codes "cust"; source = codes "cust"; columns = column (codes "id") Integer ∷ column (codes "name") Text ∷ []; key = None; patterns = []; updatable = false }

abbrev orders : TableDef
orders = record { number = 1; server = 1; schema = codes "o"; name = codes "orders"; source = codes "orders"; columns = column (codes "id") Integer ∷ column (codes "cust") Integer ∷ column (codes "qty") Integer ∷ []; key = None; patterns = []; updatable = false }

abbrev shop : Defined
shop = record nothing_defined { tables = cust ∷ orders ∷ [] }

abbrev name : List ℕ → ℕ → Name
name text at = record { text = text; at = at }

abbrev plain : List ℕ → ℕ → Expr
plain text at = Column (Plain (name text at))

abbrev number : ℕ → ℕ → Expr
number n at = Literal (record { constant = constant.Value (Num (pos n)); negative = false; whole = n; at = at })

abbrev bare : Expr → SelectItem
bare expr = item.Expr expr None

abbrev table_at : List ℕ → ℕ → List ℕ → ℕ → TableRef
table_at schema s text at = table.Named (record { schema = Some (name schema s); name = name text at }) None

abbrev query : List SelectItem → List TableRef → Option Expr → Result Ranked Refusal
query items from condition = query_walk shop (record { set = set.Select (record { distinct = false; items = items; from = from; condition = condition; group = []; having = None; at = 0 }); keys = []; limit = None; offset = None })

abbrev cust_at : ℕ → TableRef
cust_at at = table_at (codes "c") at (codes "cust") (at + 2)

-- SELECT 1.5 FROM c.cust
fraction : query (bare (Literal (record { constant = constant.Fraction; negative = false; whole = 0; at = 7 })) ∷ []) (cust_at 16 ∷ []) None ≡ Err (Fractional 7)
fraction = simp worked refl

-- SELECT nosuch FROM c.cust
unknown : query (bare (plain (codes "nosuch") 7) ∷ []) (cust_at 19 ∷ []) None ≡ Err (Unknown (codes "nosuch"))
unknown = simp worked refl

-- SELECT id FROM c.cust, o.orders
two_tables : query (bare (plain (codes "id") 7) ∷ []) (cust_at 15 ∷ table_at (codes "o") 23 (codes "orders") 25 ∷ []) None ≡ Err (Ambiguous (codes "id"))
two_tables = simp worked refl

-- SELECT id FROM c.cust WHERE name = 1
no_number : query (bare (plain (codes "id") 7) ∷ []) (cust_at 15 ∷ []) (Some (Compare Equal (plain (codes "name") 28) (number 1 35) 33)) ≡ Err (Mismatch 33)
no_number = simp worked refl

-- SELECT id + 1 + 1 + 1 FROM c.cust
past_the_widest : query (bare (Chain (plain (codes "id") 7) (record { operator = Add; operand = number 1 12; at = 10 } ∷ record { operator = Add; operand = number 1 16; at = 14 } ∷ record { operator = Add; operand = number 1 20; at = 18 } ∷ [])) ∷ []) (cust_at 27 ∷ []) None ≡ Err (TooWide 18)
past_the_widest = simp worked refl

-- SELECT qty + 2147483647 AS big FROM o.orders WHERE id = 10
wider : query (item.Expr (Chain (plain (codes "qty") 7) (record { operator = Add; operand = number 2147483647 13; at = 11 } ∷ [])) (Some (name (codes "big") 27)) ∷ []) (table_at (codes "o") 36 (codes "orders") 38 ∷ []) (Some (Compare Equal (plain (codes "id") 51) (number 10 56) 54))
    ≡ Ok (record {
      rel = rel.Select (rel.Where (rel.Table 1) (e.Cmp Eq (e.Col 0) (e.Const (Num (pos 10))))) (e.Arith arith.Add (e.Col 2) (e.Const (Num (pos 2147483647))) ∷ []);
      names = codes "big" ∷ [];
      tys = Long ∷ [];
      keys = [];
      offset = 0;
      limit = None;
    })
wider = simp worked refl

-- SELECT cust, COUNT(*) AS n, SUM(qty) FROM o.orders GROUP BY cust HAVING MAX(qty) > 1 ORDER BY cust
groups : query_walk shop (record {
  set = set.Select (record {
    distinct = false;
    items = bare (plain (codes "cust") 7) ∷ item.Expr (CountAll 13) (Some (name (codes "n") 25)) ∷ bare (Aggregate Sum (plain (codes "qty") 32) 28) ∷ [];
    from = table_at (codes "o") 42 (codes "orders") 44 ∷ [];
    condition = None;
    group = Plain (name (codes "cust") 60) ∷ [];
    having = Some (Compare Greater (Aggregate Max (plain (codes "qty") 76) 72) (number 1 83) 81);
    at = 0;
  });
  keys = record { target = target.Name (name (codes "cust") 94); descending = false } ∷ [];
  limit = None;
  offset = None;
})
    ≡ Ok (record {
      rel = rel.Select (rel.Where (rel.Group (rel.Table 1) (1 ∷ []) (agg.Max (e.Col 2) ∷ agg.CountStar ∷ agg.Sum (e.Col 2) ∷ [])) (e.Cmp Gt (e.Col 1) (e.Const (Num (pos 1))))) (e.Col 0 ∷ e.Col 2 ∷ e.Col 3 ∷ []);
      names = codes "cust" ∷ codes "n" ∷ codes "expr3" ∷ [];
      tys = Integer ∷ Long ∷ BigInteger ∷ [];
      keys = record { column = 0; desc = false } ∷ [];
      offset = 0;
      limit = None;
    })
unfolding number_text digits
groups = simp worked refl

-- SELECT id, COUNT(*) FROM c.cust
no_key : query (bare (plain (codes "id") 7) ∷ bare (CountAll 11) ∷ []) (cust_at 25 ∷ []) None ≡ Err (Mismatch 7)
no_key = simp worked refl

-- SELECT id FROM c.cust WHERE COUNT(*) = 1
aggregate_in_where : query (bare (plain (codes "id") 7) ∷ []) (cust_at 15 ∷ []) (Some (Compare Equal (CountAll 28) (number 1 39) 37)) ≡ Err (Mismatch 28)
aggregate_in_where = simp worked refl

-- SELECT id FROM c.cust UNION ALL SELECT cust FROM o.orders
chain : query_walk shop (record {
  set = set.Union (set.Select (record { distinct = false; items = bare (plain (codes "id") 7) ∷ []; from = cust_at 15 ∷ []; condition = None; group = []; having = None; at = 0 })) true
      (record { distinct = false; items = bare (plain (codes "cust") 39) ∷ []; from = table_at (codes "o") 49 (codes "orders") 51 ∷ []; condition = None; group = []; having = None; at = 32 });
  keys = [];
  limit = None;
  offset = None;
})
    ≡ Ok (record { rel = rel.Union (rel.Select (rel.Table 0) (e.Col 0 ∷ []) ∷ rel.Select (rel.Table 1) (e.Col 1 ∷ []) ∷ []); names = codes "id" ∷ []; tys = Integer ∷ []; keys = []; offset = 0; limit = None })
chain = simp worked refl

-- SELECT c.id, o.id FROM c.cust c LEFT JOIN o.orders o ON o.cust = c.id
left_join : query (bare (Column (Of (name (codes "c") 7) (name (codes "id") 9))) ∷ bare (Column (Of (name (codes "o") 13) (name (codes "id") 15))) ∷ [])
    (table.Joined (table.Named (record { schema = Some (name (codes "c") 23); name = name (codes "cust") 25 }) (Some (name (codes "c") 30))) (table.Named (record { schema = Some (name (codes "o") 42); name = name (codes "orders") 44 }) (Some (name (codes "o") 51)))
    (kind.Left (Compare Equal (Column (Of (name (codes "o") 56) (name (codes "cust") 58))) (Column (Of (name (codes "c") 65) (name (codes "id") 67))) 63)) ∷ []) None
    ≡ Ok (record {
      rel = rel.Select (rel.Join Left (rel.Table 0) (rel.Table 1) (e.Cmp Eq (e.Col 3) (e.Col 0))) (e.Col 0 ∷ e.Col 2 ∷ []);
      names = codes "id" ∷ codes "id" ∷ [];
      tys = Integer ∷ Integer ∷ [];
      keys = [];
      offset = 0;
      limit = None;
    })
left_join = simp worked refl

-- UPDATE o.orders SET qty = qty + 2147483647 WHERE id = 10
update : statement_walk shop (statement.Update (record {
  target = record { schema = Some (name (codes "o") 7); name = name (codes "orders") 9 };
  assignments = record { column = name (codes "qty") 20; value = Chain (plain (codes "qty") 26) (record { operator = Add; operand = number 2147483647 32; at = 30 } ∷ []) } ∷ [];
  condition = Some (Compare Equal (plain (codes "id") 49) (number 10 54) 52);
}))
    ≡ Ok (typed.Update (target_of.Table 1) (2 ∷ []) (e.Arith arith.Add (e.Col 2) (e.Const (Num (pos 2147483647))) ∷ []) (rel.Where (rel.Table 1) (e.Cmp Eq (e.Col 0) (e.Const (Num (pos 10))))))
update = simp worked refl

-- INSERT INTO c.cust (name) VALUES (1)
no_string : statement_walk shop (statement.Insert (record { target = record { schema = Some (name (codes "c") 12); name = name (codes "cust") 14 }; columns = name (codes "name") 20 ∷ []; source = source.Values (number 1 34 ∷ []) })) ≡ Err (Mismatch 34)
no_string = simp worked refl

-- EXEC v.total(1)
no_procedure : statement_walk shop (statement.Exec (record { procedure = record { schema = Some (name (codes "v") 5); name = name (codes "total") 7 }; arguments = number 1 13 ∷ []; close = 14 })) ≡ Err (Unknown (codes "v.total"))
no_procedure = refl
