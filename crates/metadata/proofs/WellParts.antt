-- The names and the limits of a catalog, part by part.
use Rattle.std.proofs.Common.{◌≡◌, ◌+◌, true, ◌&&◌, [], length}
use Rattle.std.specs.Prelude.{nat_le}
use Rattle.std.specs.List.{list_all}
use Rattle.std.specs.Cmp.Derive.{both_true}
use Rattle.vdb_model.specs.Defined.{Defined}
use Rattle.vdb_model.specs.WellFormed.{is_named_server, is_named_schema, is_named_table, is_named_view, are_named, are_limited_on, is_limited}
use Rattle.view_stack.proofs.NoVariables.{both}

pub record Names (cat : Defined) : Type 0 where
  pub servers : list_all is_named_server cat.servers ≡ true
  pub schemas : list_all is_named_schema cat.schemas ≡ true
  pub tables : list_all is_named_table cat.tables ≡ true
  pub views : list_all is_named_view cat.views ≡ true

pub names_of : (cat : Defined) → are_named cat ≡ true → Names cat
names_of cat h =
    let c = both (list_all is_named_server cat.servers && list_all is_named_schema cat.schemas && list_all is_named_table cat.tables) (list_all is_named_view cat.views) h in
    let d = both (list_all is_named_server cat.servers && list_all is_named_schema cat.schemas) (list_all is_named_table cat.tables) c.0 in
    let e = both (list_all is_named_server cat.servers) (list_all is_named_schema cat.schemas) d.0 in
    record { servers = e.0; schemas = e.1; tables = d.1; views = c.1 }

pub all_named : (cat : Defined) → Names cat → are_named cat ≡ true
all_named cat names = both_true (both_true (both_true names.servers names.schemas) names.tables) names.views

pub record Limits (cat : Defined) : Type 0 where
  pub servers : nat_le (length cat.servers) 64 ≡ true
  pub schemas : nat_le (length cat.schemas) 64 ≡ true
  pub relations : nat_le (length cat.tables + length cat.views) 1024 ≡ true
  pub procedures : nat_le (length cat.procedures) 256 ≡ true
  pub views : are_limited_on [] cat.views ≡ true

pub limits_of : (cat : Defined) → is_limited cat ≡ true → Limits cat
limits_of cat h =
    let servers = nat_le (length cat.servers) 64 in
    let schemas = nat_le (length cat.schemas) 64 in
    let relations = nat_le (length cat.tables + length cat.views) 1024 in
    let procedures = nat_le (length cat.procedures) 256 in
    let c = both (servers && schemas && relations && procedures) (are_limited_on [] cat.views) h in
    let d = both (servers && schemas && relations) procedures c.0 in
    let e = both (servers && schemas) relations d.0 in
    let f = both servers schemas e.0 in
    record { servers = f.0; schemas = f.1; relations = e.1; procedures = d.1; views = c.1 }

pub all_limited : (cat : Defined) → Limits cat → is_limited cat ≡ true
all_limited cat limits = both_true (both_true (both_true (both_true limits.servers limits.schemas) limits.relations) limits.procedures) limits.views
