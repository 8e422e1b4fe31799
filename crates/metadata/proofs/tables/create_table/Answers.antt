use Rattle.std.proofs.Common.{◌≡◌, ◌∙◌, List, Result, Ok, Err, sym, subst, rules}
use Rattle.vdb_model.specs.declared.table.TableDef.{TableDef}
use Rattle.vdb_model.specs.WellFormed.{IsWellFormed}
use Rattle.vdb_ddl.specs.declared.tree.Setting.{Setting}
use Rattle.vdb_ddl.specs.declared.tree.TablePart.{TablePart}
use Rattle.metadata.specs.declared.fault.DeployRefusal.{DeployRefusal}
use Rattle.metadata.specs.Answers.{Becomes}
use Rattle.metadata.specs.Tables.{table_tests, table_of, with_table, create_table}
use Rattle.metadata.proofs.SoundTables.{create_table_sound}
use Rattle.metadata.proofs.Unless.{made, refused}
use Rattle.metadata.proofs.tables.create_table.Goals as goal

pub returns-in_err-sound_table : goal.returns-in_err-sound_table
returns-in_err-sound_table c =
    let s = c.args.s.now in
    let name = c.args.name.now in
    let parts = c.as_slice-parts.result.now in
    let options = c.as_slice-options.result.now in
    let is : c.from_residual.result ≡ Err c.in_err-sound_table.field-0.0 = search rules in
    subst (λ (os : List Setting). Becomes (create_table s name c.args.parts.now os) c.from_residual.result s) c.as_slice-options.ensures
    (subst (λ (ps : List TablePart). Becomes (create_table s name ps options) c.from_residual.result s) c.as_slice-parts.ensures
    (subst (λ (r : Result (Unit {0}) DeployRefusal). Becomes (create_table s name parts options) r s) (sym is)
    (refused (table_tests s name parts options) (with_table s (table_of s name parts options)) s c.in_err-sound_table.field-0.0 c.in_err-sound_table.ensures)))

pub returns : goal.returns
returns c =
    let s = c.args.s.now in
    let name = c.args.name.now in
    let parts = c.as_slice-parts.result.now in
    let options = c.as_slice-options.result.now in
    subst (λ (os : List Setting). create_table s name c.args.parts.now os ≡ Ok (record s { catalog = c.add_table.new.self })) c.as_slice-options.ensures
    (subst (λ (ps : List TablePart). create_table s name ps options ≡ Ok (record s { catalog = c.add_table.new.self })) c.as_slice-parts.ensures
    (made (table_tests s name parts options) (with_table s (table_of s name parts options)) c.in_ok-sound_table.ensures ∙ cc (c.in_ok-table.ensures, c.in_ok-add_table.ensures.ok)))

pub add_table-requires : goal.add_table-requires
add_table-requires c =
    let s = c.args.s.now in
    let name = c.args.name.now in
    let parts = c.as_slice-parts.result.now in
    let options = c.as_slice-options.result.now in
    let table = table_of s name parts options in
    let sound = (create_table_sound s name parts options c.requires).each (with_table s table) (made (table_tests s name parts options) (with_table s table) c.in_ok-sound_table.ensures) in
    subst (λ (t : TableDef). IsWellFormed (with_table s t).catalog) (sym c.in_ok-table.ensures) sound.well
