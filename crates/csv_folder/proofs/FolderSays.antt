-- What the calls of a folder answer and leave.
use Rattle.std.proofs.Common.{◌≡◌, ◌∙◌, Bool, true, List, [], Option, Some, None, Ok, Err, IfSome, refl, sym, ap, subst}
use Rattle.std.specs.Option.{unwrap_or}
use Rattle.vdb_model.specs.declared.source.SourceQuery.{SourceQuery}
use Rattle.vdb_model.specs.declared.table.TableDef.{TableDef}
use Rattle.vdb_model.specs.Answers.{Answered}
use Rattle.vdb_model.specs.Rows.{Cells}
use Rattle.vdb_model.specs.World.{is_world, table_rows}
use Rattle.resource.specs.declared.resource.AttachFault.{AttachFault}
use Rattle.resource.specs.declared.resource.AttachFault.TheVariants as attach
use Rattle.resource.specs.declared.resource.ResState.{ResState}
use Rattle.resource.specs.declared.resource.ResState.TheVariants as state
use Rattle.resource.specs.Asks.{Allows, FitRows, AnswersQuery, all_rows_fit, answer_types}
use Rattle.resource.specs.Checked.{passing_cut}
use Rattle.resource.specs.Images.{Image, Only, Same, Fewer}
use Rattle.resource.specs.Leaves.{HasRead, Attaches, Reopens}
use Rattle.resource.specs.Reading.{Reading, Sound, IsAttachAnswer}
use Rattle.resource.specs.Told.{Told, contents_of}
use Rattle.resource.proofs.SingleAnswer.{answered, fitting}
use Rattle.resource.proofs.SingleQuery.{SingleQuery, single_query}
use Rattle.csv_folder.specs.declared.file.File.{File}
use Rattle.csv_folder.specs.Folder.{read_folder}
use Rattle.csv_folder.specs.Told.{csv_caps, told_with, images_with, ReadsTables, rows_asked}
use Rattle.csv_folder.proofs.ReadsWorld.{reads_world}

-- nothing that a stop may leave changes
pub same_images : (files : List File) → Same (images_with files) (images_with files)
same_images files = record { within = λ i h. h; keeps = λ i h. h }

pub fewer_images : (files : List File) → Fewer (images_with files) (images_with files)
fewer_images files = record { within = λ i h. h; some = λ i h. (i, h) }

module _ (files : List File) (writes : Bool) (defs : Option (List TableDef)) (tables : List (List Cells)) (asked : List SourceQuery) (e : read_folder files (unwrap_or defs []) ≡ Sound tables None) where
  abbrev now : Told
  now = told_with files writes state.Idle defs tables asked

  world : is_world (unwrap_or defs []) tables ≡ true
  world = reads_world files (unwrap_or defs []) tables None e

  -- all that a stop leaves are the committed tables
  pub only : Only (unwrap_or defs []) (Sound tables None) (images_with files)
  only = record { some = (read_folder files, refl); each = λ i h. ap (λ (j : Image). j (unwrap_or defs [])) h ∙ e }

  pub has_read : HasRead (read_folder files (unwrap_or defs [])) now (images_with files)
  has_read = record {
    kept = tables;
    branch = None;
    is = e;
    state_is = refl;
    contents_are = ap (λ reading. Some (contents_of reading)) (sym e);
    kept_fits = world;
    work_fits = world;
    sound = (only, refl);
  }

  pub reopened : (s : ResState) → Reopens {T = Unit {0}} (told_with files writes s defs tables asked) now (images_with files) (Ok tt)
  reopened s = (record { same = refl; tells = refl; reads = refl }, refl, (read_folder files (unwrap_or defs []), has_read))

-- an attach that went well
pub attached : (files : List File) (writes : Bool) (s : ResState) (before : Option (List TableDef)) (kept : List (List Cells)) (asked : List SourceQuery) (defs : List TableDef) (tables : List (List Cells)) → read_folder files defs ≡ Sound tables None
    → Attaches defs (told_with files writes s before kept asked) (told_with files writes state.Idle (Some defs) tables asked) (images_with files) (Ok tt)
attached files writes s before kept asked defs tables e = (
  ap (λ reading. record (told_with files writes state.Idle (Some defs) tables asked) { contents = Some (contents_of reading) }) (sym e),
  (refl, has_read files writes (Some defs) tables asked e),
)

-- what the tables read as is what the attach answers
pub attach_answer : (reading : Reading) (f : AttachFault) → ReadsTables reading (Err f) → IsAttachAnswer reading (Err f)
attach_answer reading (attach.BadCell table row col) h = h
attach_answer reading (attach.BadStore table) h = h
attach_answer reading attach.Failed h = tt
attach_answer reading attach.Memory h = tt

-- or was refused
pub refused : (files : List File) (writes : Bool) (s : ResState) (before : Option (List TableDef)) (kept : List (List Cells)) (asked : List SourceQuery) (defs : List TableDef) (f : AttachFault) → ReadsTables (read_folder files defs) (Err f)
    → Attaches defs (told_with files writes s before kept asked) (told_with files writes s None [] asked) (images_with files) (Err f)
refused files writes s before kept asked defs (attach.BadCell table row col) h = refl
refused files writes s before kept asked defs (attach.BadStore table) h = refl
refused files writes s before kept asked defs attach.Failed h = absurd h
refused files writes s before kept asked defs attach.Memory h = refl

module _ (files : List File) (writes : Bool) (s : ResState) (defs : Option (List TableDef)) (tables : List (List Cells)) (asked : List SourceQuery) (q : SourceQuery) (may : Allows (told_with files writes s defs tables asked) q)
    (rows : List Cells) (is : rows ≡ passing_cut q.filter q.columns (rows_asked defs tables q.tables)) where
  p : SingleQuery q
  p = single_query (record csv_caps { writes = writes }) may.defs q refl may.within

  rows_are : rows ≡ passing_cut q.filter q.columns (table_rows may.defs tables p.table)
  rows_are = is ∙ ap (λ o. passing_cut q.filter q.columns (rows_asked o tables q.tables)) may.attached ∙ ap (λ ts. passing_cut q.filter q.columns (rows_asked (Some may.defs) tables ts)) p.tables

  pub query_answered : AnswersQuery (told_with files writes s defs tables asked) q rows
  query_answered =
      subst (λ (o : Option (List TableDef)). IfSome o (λ ds. Answered ds tables q rows)) (sym may.attached)
      (subst (λ out. Answered may.defs tables q out) (sym rows_are) (answered may.defs tables q p))

  pub query_fits : read_folder files (unwrap_or defs []) ≡ Sound tables None → FitRows (told_with files writes s defs tables asked) q rows
  query_fits e =
      let world : is_world may.defs tables ≡ true = subst (λ (o : Option (List TableDef)). is_world (unwrap_or o []) tables ≡ true) may.attached (reads_world files (unwrap_or defs []) tables None e) in
      record {
        cells = subst (λ (o : Option (List TableDef)). IfSome o (λ ds. all_rows_fit (answer_types q.count ds q) rows ≡ true)) (sym may.attached)
            (ap (all_rows_fit (answer_types q.count may.defs q)) rows_are ∙ fitting may.defs tables q p world);
        one = λ count. let none = p.count in cc (none, count);
      }
