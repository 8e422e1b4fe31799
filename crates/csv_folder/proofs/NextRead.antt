-- A read of a record, by the records that are left.
use Rattle.std.proofs.Common.{Bor, ◌≡◌, ◌∙◌, ℕ, Bool, true, false, List, [], ◌∷◌, Option, Some, None, Result, Ok, Err, IfOk, OnOk, refl, ap, sym, subst, inl}
use Rattle.std.specs.Option.{is_some, unwrap_or}
use Rattle.std.specs.Result.{result_ok}
use Rattle.csv.specs.Reading.{Reached, ReadRecord, default_config, source_of, took_first}
use Rattle.csv.specs.declared.reader.Reader.{Reader}
use Rattle.csv.proofs.ReadFacts.{rows-end, rows-more}
use Rattle.csv_folder.specs.Records.{Fields, IsGoing, IsNext, bytes_of, records_from_state}
use Rattle.csv_folder.proofs.RecordsLeft.{left_more, left_none}

known_is : (o : Option (List ℕ)) → is_some o ≡ true → o ≡ Some (unwrap_or o [])
known_is None h = cc
known_is (Some xs) h = refl

next_found : (old new : Reader (Bor (List ℕ))) (fields : Fields) → IsGoing old → took_first new ≡ true → ReadRecord bytes_of old new true fields → IsNext true old new fields
unfolding Reached
next_found old new fields g first r =
    let xs = unwrap_or (source_of bytes_of old) [] in
    let source : source_of bytes_of old ≡ Some xs = known_is (source_of bytes_of old) g.known in
    let more = rows-more bytes_of old new fields default_config old.state xs xs [] g.config source (refl, refl) r in
    let left = left_more old.state new.state xs more.0 fields g.between more.2 in (
      record { config = r.2 ∙ g.config; trim = r.3 ∙ g.trim; ready = inl first; between = left.1; known = ap is_some more.1 },
      left.0 ∙ ap (λ o. fields ∷ records_from_state new.state (unwrap_or o [])) (sym more.1),
    )

next_none : (old new : Reader (Bor (List ℕ))) (fields : Fields) → IsGoing old → ReadRecord bytes_of old new false fields → IsNext false old new fields
next_none old new fields g r =
    let xs = unwrap_or (source_of bytes_of old) [] in
    left_none old.state xs (rows-end bytes_of old new fields default_config xs g.config (known_is (source_of bytes_of old) g.known) r)

pub next_read : (found : Bool) (old new : Reader (Bor (List ℕ))) (fields : Fields) → IsGoing old → took_first new ≡ true → ReadRecord bytes_of old new found fields → IsNext found old new fields
next_read true old new fields g first r = next_found old new fields g first r
next_read false old new fields g first r = next_none old new fields g r

-- what is known of a result that is Ok
pub found_in : {E : Type 0} (r : Result Bool E) (found : Bool) (P : Bool → Type 0) → result_ok r ≡ Some found → IfOk r P → P found
found_in (Ok b) found P e h = let same : b ≡ found = cc e in subst P same h
found_in (Err f) found P e h = absurd (cc e)

pub once_found : {E : Type 0} (r : Result Bool E) (found : Bool) (P : Type 0) → result_ok r ≡ Some found → OnOk r P → P
once_found (Ok b) found P e h = h
once_found (Err f) found P e h = absurd (cc e)
