-- CREATE DATABASE and USE DATABASE. Neither adds to the catalog, and no option of a database counts.
use Rattle.std.specs.Prelude.{ℕ, Bool, false, not, List, [], ◌∷◌, Option, Some, None, Result}
use Rattle.std.specs.Option.{is_some}
use Rattle.vdb_model.specs.declared.reply.DeployFault.{DeployFault}
use Rattle.vdb_model.specs.declared.reply.DeployFault.TheVariants.{Duplicate, Unknown}
use Rattle.vdb_model.specs.Defs.{same_name}
use Rattle.vdb_model.specs.NameText.{name_text}
use Rattle.sql_reader.specs.declared.tree.name.Name.{Name}
use Rattle.metadata.specs.declared.so_far.SoFar.{SoFar}
use Rattle.metadata.specs.Tests.{Test, fails_if, unless}

-- 32: there is one CREATE DATABASE
abbrev pub second_database : SoFar → Name → Test
second_database s name = fails_if (is_some s.database) (Duplicate (name_text name.text))

abbrev pub is_database : Option (List ℕ) → List ℕ → Bool
is_database None name = false
is_database (Some database) name = same_name database name

-- 33: the database isn't there
abbrev pub unknown_database : SoFar → Name → Test
unknown_database s name = fails_if (not (is_database s.database name.text)) (Unknown (name_text name.text))

abbrev pub create_database : SoFar → Name → Result SoFar DeployFault
create_database s name = unless (
    second_database s name  -- 32
    ∷ []) (record s { database = Some name.text })

abbrev pub use_database : SoFar → Name → Result SoFar DeployFault
use_database s name = unless (
    unknown_database s name  -- 33
    ∷ []) s
