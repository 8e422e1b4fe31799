-- What values feed a hasher. Values that are the same feed the same.
use Rattle.std.specs.Prelude.{[], ◌∷◌, ◌++◌}
use Rattle.std.specs.Hash as fed
use Rattle.std.specs.Hash.{HashWrites}
use Rattle.vdb_base.specs.declared.value.Value.{Value}
use Rattle.vdb_base.specs.declared.value.Value.TheVariants.{Null, Bool as Truth, Num, Str}
use Rattle.vdb_model.specs.Rows.{Cells}

abbrev pub fed_value : Value → HashWrites
fed_value Null = fed.u8 0
fed_value (Truth b) = fed.bool b
fed_value (Num n) = fed.i128 n
fed_value (Str s) = fed.str s

-- one after another
abbrev pub fed_cells : Cells → HashWrites
fed_cells [] = []
fed_cells (v ∷ vs) = fed_value v ++ fed_cells vs
