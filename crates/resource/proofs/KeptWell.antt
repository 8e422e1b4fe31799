-- What a resource in memory keeps, and which steps keep it.
use Rattle.std.proofs.Common.{◌≡◌, ◌∙◌, Bool, true, false, not, ◌&&◌, ◌||◌, ◌==◌, if◌then◌else◌, ℕ, List, [], ◌∷◌, length, refl, sym, ap, subst, arith}
use Rattle.std.proofs.lemmas.Bool.{and_parts, and_from}
use Rattle.std.proofs.lemmas.Bool.Decides.{nat_tests}
use Rattle.vdb_model.specs.declared.source.Caps.{Caps}
use Rattle.vdb_model.specs.declared.table.TableDef.{TableDef}
use Rattle.vdb_model.specs.Defs.{all_fit, are_fit, are_numbered_apart, are_named_apart}
use Rattle.vdb_model.specs.Deltas.{after_deltas}
use Rattle.vdb_model.specs.World.{is_world}
use Rattle.resource.specs.declared.mode.Mode.{Mode}
use Rattle.resource.specs.declared.mode.Mode.TheVariants as mode
use Rattle.resource.specs.declared.mode.Side.{Side}
use Rattle.resource.specs.declared.mode.Side.TheVariants.{Plain, Branched, Done}
use Rattle.resource.specs.declared.stored.StoredDelta.{StoredDelta}
use Rattle.resource.specs.declared.stored.StoredTable.{StoredTable}
use Rattle.resource.specs.Holding.{Holding, defs_held, contents_held, is_plain_side, is_unwritten, holds_world, is_kept_well, first_of, other_of, losing, taking, detaching, side_at}
use Rattle.resource.specs.Single.{asks_one_table}
use Rattle.resource.specs.Steps.{starting, ending, unreserved}
use Rattle.resource.specs.Stored.{tables_in, after_stored, numbered}
use Rattle.resource.specs.Told.{seen}
use Rattle.resource.proofs.ByName.{all_seen, none_numbered}

-- the parts of what it keeps
pub record Good (h : Holding) : Type 0 where
  pub one : asks_one_table h.caps ≡ true
  pub fit : are_fit h.caps (defs_held h) ≡ true
  pub kept_fits : is_world (defs_held h) (tables_in h.kept (defs_held h)) ≡ true
  pub work_fits : is_world (defs_held h) (seen (defs_held h) (contents_held h)) ≡ true
  pub writes : (h.caps.writes || (is_unwritten h.mode && length h.deltas == 0)) ≡ true

pub good : (h : Holding) → is_kept_well h ≡ true → Good h
good h k =
    let writes = and_parts (asks_one_table h.caps && are_fit h.caps (defs_held h) && holds_world (defs_held h) h.kept h.deltas) (h.caps.writes || (is_unwritten h.mode && length h.deltas == 0)) k in
    let holds = and_parts (asks_one_table h.caps && are_fit h.caps (defs_held h)) (holds_world (defs_held h) h.kept h.deltas) writes.0 in
    let fit = and_parts (asks_one_table h.caps) (are_fit h.caps (defs_held h)) holds.0 in
    let worlds = and_parts (is_world (defs_held h) (tables_in h.kept (defs_held h))) (is_world (defs_held h) (seen (defs_held h) (contents_held h))) holds.1 in
    record { one = fit.0; fit = fit.1; kept_fits = worlds.0; work_fits = worlds.1; writes = writes.1 }

pub well : (h : Holding) → Good h → is_kept_well h ≡ true
well h g =
    and_from (asks_one_table h.caps && are_fit h.caps (defs_held h) && holds_world (defs_held h) h.kept h.deltas) (h.caps.writes || (is_unwritten h.mode && length h.deltas == 0))
    (and_from (asks_one_table h.caps && are_fit h.caps (defs_held h)) (holds_world (defs_held h) h.kept h.deltas)
    (and_from (asks_one_table h.caps) (are_fit h.caps (defs_held h)) g.one g.fit)
    (and_from (is_world (defs_held h) (tables_in h.kept (defs_held h))) (is_world (defs_held h) (seen (defs_held h) (contents_held h))) g.kept_fits g.work_fits))
    g.writes

pub or_true : (b : Bool) → (b || true) ≡ true
or_true true = refl
or_true false = refl

no_deltas : (deltas : List StoredDelta) → (length deltas == 0) ≡ true → deltas ≡ []
no_deltas [] h = refl
no_deltas (delta ∷ deltas) h = absurd (grind (arith, nat_tests))

-- the tables after the stored deltas are those as seen
pub worked : (caps : Caps) (unwritten : Bool) (kept : List StoredTable) (deltas : List StoredDelta) (defs : List TableDef) → are_fit caps defs ≡ true
    → (caps.writes || (unwritten && length deltas == 0)) ≡ true → tables_in (after_stored kept deltas) defs ≡ after_deltas defs (tables_in kept defs) (numbered defs deltas)
worked caps unwritten kept deltas defs fit writes = here caps.writes refl writes
  where
    numbers : ((all_fit defs && are_numbered_apart defs) ≡ true) × ((not caps.writes || are_named_apart defs) ≡ true)
    numbers = and_parts (all_fit defs && are_numbered_apart defs) (not caps.writes || are_named_apart defs) fit

    here : (b : Bool) → caps.writes ≡ b → (b || (unwritten && length deltas == 0)) ≡ true → tables_in (after_stored kept deltas) defs ≡ after_deltas defs (tables_in kept defs) (numbered defs deltas)
    here true is h =
        let named : are_named_apart defs ≡ true = sym (ap (λ b. not b || are_named_apart defs) is) ∙ numbers.1 in
        all_seen deltas kept defs (and_parts (all_fit defs) (are_numbered_apart defs) numbers.0).1 named
    here false is h =
        let none : deltas ≡ [] = no_deltas deltas (and_parts unwritten (length deltas == 0) h).1 in
        subst (λ (ds : List StoredDelta). tables_in (after_stored kept ds) defs ≡ after_deltas defs (tables_in kept defs) (numbered defs ds)) (sym none) refl

pub worked_well : (h : Holding) → Good h → tables_in (after_stored h.kept h.deltas) (defs_held h) ≡ seen (defs_held h) (contents_held h)
worked_well h g = worked h.caps (is_unwritten h.mode) h.kept h.deltas (defs_held h) g.fit g.writes

-- a branch is there only with the capability of writes
pub can_write : (h : Holding) → Good h → is_unwritten h.mode ≡ false → h.caps.writes ≡ true
can_write h g m = here h.caps.writes (ap (λ b. h.caps.writes || (b && length h.deltas == 0)) (sym m) ∙ g.writes)
  where
    here : (b : Bool) → (b || false) ≡ true → b ≡ true
    here true e = refl
    here false e = e

pub writing : (b c : Bool) → b ≡ true → (b || c) ≡ true
writing true c e = refl
writing false c e = cc

-- what a store with this side is kept as
pub taking_good : (side : Side) (h : Holding) → Good h → (h.caps.writes || is_plain_side side) ≡ true → Good (taking side h)
taking_good Plain h g w = record { one = g.one; fit = g.fit; kept_fits = g.kept_fits; work_fits = g.kept_fits; writes = or_true h.caps.writes }
taking_good (Branched x) h g w = record { one = g.one; fit = g.fit; kept_fits = g.kept_fits; work_fits = g.work_fits; writes = here h.caps.writes w }
  where
    here : (b : Bool) → (b || false) ≡ true → (b || (false && length h.deltas == 0)) ≡ true
    here true e = refl
    here false e = e
taking_good Done h g w =
    let fits : is_world (defs_held h) (tables_in (after_stored h.kept h.deltas) (defs_held h)) ≡ true = ap (is_world (defs_held h)) (worked_well h g) ∙ g.work_fits in
    record { one = g.one; fit = g.fit; kept_fits = fits; work_fits = fits; writes = or_true h.caps.writes }

-- and a lost one
pub losing_good : (other : Side) (h : Holding) → Good h → (h.caps.writes || is_plain_side other) ≡ true → Good (losing other h)
losing_good other h g w = record { one = g.one; fit = g.fit; kept_fits = g.kept_fits; work_fits = g.work_fits; writes = here h.caps.writes g.writes w }
  where
    first_plain : (m : Mode) → is_unwritten m ≡ true → is_plain_side (first_of m) ≡ true
    first_plain mode.Idle e = refl
    first_plain (mode.Active x) e = refl
    first_plain (mode.Ended x) e = refl
    first_plain (mode.Prepared x) e = e
    first_plain (mode.Lost first last) e = (and_parts (is_plain_side first) (is_plain_side last) e).0

    here : (b : Bool) → (b || (is_unwritten h.mode && length h.deltas == 0)) ≡ true → (b || is_plain_side other) ≡ true → (b || (is_plain_side (first_of h.mode) && is_plain_side other && length h.deltas == 0)) ≡ true
    here true e p = refl
    here false e p =
        let parts = and_parts (is_unwritten h.mode) (length h.deltas == 0) e in
        and_from (is_plain_side (first_of h.mode) && is_plain_side other) (length h.deltas == 0) (and_from (is_plain_side (first_of h.mode)) (is_plain_side other) (first_plain h.mode parts.0) p) parts.1

-- the sides of a resource that can't write are plain
pub plain_side : (image : ℕ) (h : Holding) → Good h → (h.caps.writes || is_plain_side (side_at image h.mode)) ≡ true
plain_side image h g = here h.caps.writes g.writes
  where
    at : (b : Bool) (m : Mode) → is_unwritten m ≡ true → is_plain_side (if b then first_of m else other_of m) ≡ true
    at true mode.Idle e = refl
    at false mode.Idle e = refl
    at true (mode.Active x) e = cc
    at false (mode.Active x) e = cc
    at true (mode.Ended x) e = cc
    at false (mode.Ended x) e = cc
    at true (mode.Prepared x) e = e
    at false (mode.Prepared x) e = e
    at true (mode.Lost first last) e = (and_parts (is_plain_side first) (is_plain_side last) e).0
    at false (mode.Lost first last) e = (and_parts (is_plain_side first) (is_plain_side last) e).1

    here : (b : Bool) → (b || (is_unwritten h.mode && length h.deltas == 0)) ≡ true → (b || is_plain_side (side_at image h.mode)) ≡ true
    here true e = refl
    here false e = at (image == 0) h.mode (and_parts (is_unwritten h.mode) (length h.deltas == 0) e).0

-- a resource without definitions
pub detaching_good : (h : Holding) → Good h → Good (detaching h)
detaching_good h g = record {
  one = g.one;
  fit = or_true (not h.caps.writes);
  kept_fits = refl;
  work_fits = ap (λ ds. is_world [] (after_deltas [] [] ds)) (none_numbered h.deltas);
  writes = g.writes;
}

pub unreserved_good : (h : Holding) → Good h → Good (unreserved h)
unreserved_good h g = record { one = g.one; fit = g.fit; kept_fits = g.kept_fits; work_fits = g.work_fits; writes = g.writes }

pub starting_good : (x : _) (h : Holding) → Good h → h.caps.writes ≡ true → Good (starting x h)
starting_good x h g w = record { one = g.one; fit = g.fit; kept_fits = g.kept_fits; work_fits = g.work_fits; writes = writing h.caps.writes (false && length h.deltas == 0) w }

pub ending_good : (x : _) (h : Holding) → Good h → h.caps.writes ≡ true → Good (ending x h)
ending_good x h g w = record { one = g.one; fit = g.fit; kept_fits = g.kept_fits; work_fits = g.work_fits; writes = writing h.caps.writes (false && length h.deltas == 0) w }
