-- The values of an entry, taken one behind another, and the registers that they fill.
use Rattle.std.proofs.Common.{◌≡◌, ℕ, zero, suc, ◌+◌, ◌<◌, ◌≤◌, List, [], ◌∷◌, ◌++◌, length, map, take, drop, get_or, arith, ap, refl, sym, subst, ◌∙◌, length-append}
use Rattle.std.specs.Prelude.{Some, None, slice_get}
use Rattle.std.proofs.lemmas.List.{take_more}
use Rattle.program_model.specs.declared.pass.Outside.{Outside}
use Rattle.dalvik_defs.specs.Gives.{gets, gets_all, may_give, spread}
use Rattle.dalvik_defs.specs.Outer.{outer_of}
use Rattle.dalvik_defs.specs.State.{World}
use Rattle.dalvik_defs.specs.declared.script.Given.{Given}
use Rattle.dalvik_defs.specs.declared.state.Value.{Value}
use Rattle.dalvik_defs.specs.declared.state.Value.TheVariants as value
use Rattle.dalvik_lookups.specs.Facing.{run_face}
use Rattle.dalvik_lookups.specs.Playing.{AreEach, IsGift}
use Rattle.dalvik_lookups.specs.declared.lookups.Lookups.{Lookups}
use Rattle.dalvik_lookups.specs.declared.plays.Gift.{Gift}
use Rattle.dalvik_state.specs.declared.datum.Datum.{Datum}
use Rattle.dalvik_state.specs.declared.datum.Datum.TheVariants as datum
use Rattle.dalvik_state.specs.declared.gifts.Gifts.{Gifts}
use Rattle.dalvik_state.specs.declared.gifts.Taken.{Taken}
use Rattle.dalvik_state.specs.declared.world.Thing.{Thing as OwnThing}
use Rattle.dalvik_state.specs.declared.world.World.{World as OwnWorld}
use Rattle.dalvik_state.specs.Drafts.{gift_spots, given_world}
use Rattle.dalvik_state.specs.Frames.{cell}
use Rattle.dalvik_state.specs.Giving.{AreTakenFrom, IsGiven, IsTakenFrom, Takes}
use Rattle.dalvik_state.specs.States.{IsSound}
use Rattle.dalvik_state.specs.Views.{names_in, value_of, values_of, world_of, AreFine, IsFine, Names}
use Rattle.dalvik_state.specs.Worlds.{new_spot, spots_of}
use Rattle.dalvik_moves.specs.Moving.{datums_of, spread_in, AreAllTaken}
use Rattle.dalvik_moves.specs.declared.entering.Values.{Values}
use Rattle.dalvik_moves.proofs.Taken.{none_given, nothing_given}

-- ---- registers

pub spread_named : (n : Names) (ds : List Datum) → spread (map (value_of n) ds) ≡ values_of n (spread_in ds)
spread_named n [] = refl
spread_named n (datum.Word x ∷ ds) = ap (λ (vs : List Value). value.Word x ∷ vs) (spread_named n ds)
spread_named n (datum.Low x ∷ ds) = ap (λ (vs : List Value). value.Low x ∷ value.High x ∷ vs) (spread_named n ds)
spread_named n (datum.High x ∷ ds) = ap (λ (vs : List Value). value.High x ∷ vs) (spread_named n ds)
spread_named n (datum.Object x ∷ ds) = ap (λ (vs : List Value). value.Object x ∷ vs) (spread_named n ds)
spread_named n (datum.Literal x ∷ ds) = ap (λ (vs : List Value). value.Literal (n.text x) ∷ vs) (spread_named n ds)
spread_named n (datum.Class x ∷ ds) = ap (λ (vs : List Value). value.Class (n.text x) ∷ vs) (spread_named n ds)

-- one value more
pub spread_last : (ds : List Datum) (d : Datum) → spread_in (ds ++ d ∷ []) ≡ spread_in ds ++ spread_in (d ∷ [])
spread_last [] d = refl
spread_last (datum.Word x ∷ ds) d = ap (λ (es : List Datum). datum.Word x ∷ es) (spread_last ds d)
spread_last (datum.Low x ∷ ds) d = ap (λ (es : List Datum). datum.Low x ∷ datum.High x ∷ es) (spread_last ds d)
spread_last (datum.High x ∷ ds) d = ap (λ (es : List Datum). datum.High x ∷ es) (spread_last ds d)
spread_last (datum.Object x ∷ ds) d = ap (λ (es : List Datum). datum.Object x ∷ es) (spread_last ds d)
spread_last (datum.Literal x ∷ ds) d = ap (λ (es : List Datum). datum.Literal x ∷ es) (spread_last ds d)
spread_last (datum.Class x ∷ ds) d = ap (λ (es : List Datum). datum.Class x ∷ es) (spread_last ds d)

datums_last : (ts : List (Gift × Taken)) (t : Gift × Taken) → datums_of (ts ++ t ∷ []) ≡ datums_of ts ++ t.1.datum ∷ []
datums_last [] t = refl
datums_last (x ∷ xs) t = ap (λ (ds : List Datum). x.1.datum ∷ ds) (datums_last xs t)

pub spread_goes_on : (ts : List (Gift × Taken)) (i : ℕ) (t : Gift × Taken) (old new : List Datum) → i < length ts → old ≡ spread_in (datums_of (take i ts)) → new ≡ old ++ spread_in ((get_or ts i t).1.datum ∷ []) → new ≡ spread_in (datums_of (take (i + 1) ts))
spread_goes_on ts i t old new low e f =
    f
    ∙ ap (λ (ds : List Datum). ds ++ spread_in ((get_or ts i t).1.datum ∷ [])) e
    ∙ sym (ap (λ (xs : List (Gift × Taken)). spread_in (datums_of xs)) (take_more ts i t low)
    ∙ ap spread_in (datums_last (take i ts) (get_or ts i t))
    ∙ spread_last (datums_of (take i ts)) (get_or ts i t).1.datum)

-- registers that are fine
module _ (n : Names) (size : ℕ) where
  fine_none : AreFine n size []
  fine_none = record { at = λ r. by r }
    where
      by : (r : ℕ) → IsFine n size (cell [] r)
      by zero = tt
      by (suc r) = tt

  fine_more_by : (d : Datum) (ds : List Datum) → IsFine n size d → AreFine n size ds → AreFine n size (d ∷ ds)
  fine_more_by d ds h k = record { at = λ r. by r }
    where
      by : (r : ℕ) → IsFine n size (cell (d ∷ ds) r)
      by zero = h
      by (suc r) = k.at r

  fine_first : (d : Datum) (ds : List Datum) → AreFine n size (d ∷ ds) → IsFine n size d
  fine_first d ds h = h.at 0

  fine_rest : (d : Datum) (ds : List Datum) → AreFine n size (d ∷ ds) → AreFine n size ds
  fine_rest d ds h = record { at = λ r. h.at (suc r) }

  pub spread_fine : (ds : List Datum) → AreFine n size ds → AreFine n size (spread_in ds)
  spread_fine [] h = h
  spread_fine (datum.Word x ∷ ds) h = fine_more_by (datum.Word x) (spread_in ds) tt (spread_fine ds (fine_rest (datum.Word x) ds h))
  spread_fine (datum.Low x ∷ ds) h = fine_more_by (datum.Low x) (datum.High x ∷ spread_in ds) tt (fine_more_by (datum.High x) (spread_in ds) tt (spread_fine ds (fine_rest (datum.Low x) ds h)))
  spread_fine (datum.High x ∷ ds) h = fine_more_by (datum.High x) (spread_in ds) tt (spread_fine ds (fine_rest (datum.High x) ds h))
  spread_fine (datum.Object x ∷ ds) h = fine_more_by (datum.Object x) (spread_in ds) (fine_first (datum.Object x) ds h) (spread_fine ds (fine_rest (datum.Object x) ds h))
  spread_fine (datum.Literal x ∷ ds) h = fine_more_by (datum.Literal x) (spread_in ds) (fine_first (datum.Literal x) ds h) (spread_fine ds (fine_rest (datum.Literal x) ds h))
  spread_fine (datum.Class x ∷ ds) h = fine_more_by (datum.Class x) (spread_in ds) (fine_first (datum.Class x) ds h) (spread_fine ds (fine_rest (datum.Class x) ds h))

  pub fine_at_first : (ds : List Datum) (d : Datum) → slice_get ds 0 ≡ Some d → AreFine n size ds → IsFine n size d
  fine_at_first [] d e h = absurd (cc)
  fine_at_first (x ∷ ds) d e h = (let same : x ≡ d = cc in subst (IsFine n size) same (fine_first x ds h))

-- the first value by names
pub first_named : (n : Names) (ds : List Datum) (d : Datum) → slice_get ds 0 ≡ Some d → map (value_of n) ds ≡ value_of n d ∷ map (value_of n) (drop 1 ds)
first_named n [] d e = absurd (cc)
first_named n (x ∷ ds) d e = (let same : x ≡ d = cc in ap (λ (y : Datum). value_of n y ∷ map (value_of n) ds) same)

pub none_named : (n : Names) (ds : List Datum) → slice_get ds 0 ≡ None → map (value_of n) ds ≡ []
none_named n [] e = refl
none_named n (x ∷ ds) e = absurd (cc)

-- the values by names
pub values_named : (n : Names) (ts : List (Gift × Taken)) → map (λ (t : Gift × Taken). value_of n t.1.datum) ts ≡ map (value_of n) (datums_of ts)
values_named n [] = refl
values_named n (t ∷ ts) = ap (λ (vs : List Value). value_of n t.1.datum ∷ vs) (values_named n ts)

-- ---- values

-- lists that stand side by side, without their last entries
pub record AreOneMore {A B : Type 0} (R : A → B → Type 0) (xs : List A) (bs : List B) (b : B) : Type 0 where
  pub before : List A
  pub last : A
  pub is : xs ≡ before ++ last ∷ []
  pub each : AreEach R before bs
  pub one : R last b

pub split_each : {A B : Type 0} (R : A → B → Type 0) (xs : List A) (bs : List B) (b : B) → AreEach R xs (bs ++ b ∷ []) → AreOneMore R xs bs b
split_each R [] [] b h = absurd h
split_each R [] (y ∷ bs) b h = absurd h
split_each R (x ∷ []) [] b h = record { before = []; last = x; is = refl; each = tt; one = h.0 }
split_each R (x ∷ z ∷ xs) [] b h = absurd h.1
split_each {A = A} R (x ∷ xs) (y ∷ bs) b h =
    let m = split_each R xs bs b h.1 in
    record { before = x ∷ m.before; last = m.last; is = ap (λ (zs : List A). x ∷ zs) m.is; each = (h.0, m.each); one = m.one }

-- a reference stays one where there are more objects
fine_more : (n : Names) (few more : ℕ) (d : Datum) → few ≤ more → IsFine n few d → IsFine n more d
fine_more n few more (datum.Word x) low fine = tt
fine_more n few more (datum.Low x) low fine = tt
fine_more n few more (datum.High x) low fine = tt
fine_more n few more (datum.Object x) low fine = omega (arith, low, fine)
fine_more n few more (datum.Literal x) low fine = fine
fine_more n few more (datum.Class x) low fine = fine

module _ (l : Lookups) (o : Outside) (w : OwnWorld) where
  pub taken_more : (before : World) (few more : Gifts) (gs : List Given) (ts : List (Gift × Taken)) → length (gift_spots w few) ≤ length (gift_spots w more) → AreTakenFrom l o w before few gs ts → AreTakenFrom l o w before more gs ts
  taken_more before few more [] [] low h = tt
  taken_more before few more [] (t ∷ ts) low h = absurd h
  taken_more before few more (g ∷ gs) [] low h = absurd h
  taken_more before few more (g ∷ gs) (t ∷ ts) low h = (
    record { gift = h.0.gift; allowed = h.0.allowed; value = h.0.value; fine = fine_more (names_in l) (length (gift_spots w few)) (length (gift_spots w more)) t.1.datum low h.0.fine },
    taken_more (gets before g).0 few more gs ts low h.1,
  )

  pub taken_last : (before : World) (all : Gifts) (gs : List Given) (ts : List (Gift × Taken)) (g : Given) (t : Gift × Taken) → AreTakenFrom l o w before all gs ts → IsTakenFrom l o w (gets_all before gs).0 all g t → AreTakenFrom l o w before all (gs ++ g ∷ []) (ts ++ t ∷ [])
  taken_last before all [] [] g t h last = (last, tt)
  taken_last before all [] (u ∷ ts) g t h last = absurd h
  taken_last before all (x ∷ gs) [] g t h last = absurd h
  taken_last before all (x ∷ gs) (u ∷ ts) g t h last = (h.0, taken_last (gets before x).0 all gs ts g t h.1 last)

  -- values that were taken so far, and the objects of them
  pub record AreTakenSo (gs : List Given) (all : Gifts) (ts : List (Gift × Taken)) : Type 0 where
    pub got : gets_all (world_of (names_in l) w) gs ≡ (given_world (names_in l) w all, map (λ (t : Gift × Taken). value_of (names_in l) t.1.datum) ts)
    pub taken : AreTakenFrom l o w (world_of (names_in l) w) all gs ts
    pub given : IsGiven l w all

  pub taking_begins : (all : Gifts) → IsSound l w → all.things.items ≡ [] → AreTakenSo [] all []
  taking_begins all s none = record { got = ap (λ (v : World). (v, [])) (sym (nothing_given l w all none)); taken = tt; given = none_given l w all s none }

  pub taking_starts : (gs : List Given) (all : Gifts) (ts : List (Gift × Taken)) → IsSound l w → all.things.items ≡ [] → ts ≡ [] → AreEach (IsGift l.types l.texts) gs [] → AreTakenSo gs all ts
  taking_starts [] all ts s none empty each = subst (AreTakenSo [] all) (sym empty) (taking_begins all s none)
  taking_starts (g ∷ gs) all ts s none empty each = absurd each

  pub taking_goes_on : (gs : List Given) (old new : Gifts) (ts : List (Gift × Taken)) (g : Given) (gift : Gift) (t : Taken) → AreTakenSo gs old ts → IsGift l.types l.texts g gift → Takes l o w old new g t → AreTakenSo (gs ++ g ∷ []) new (ts ++ (gift, t) ∷ [])
  taking_goes_on gs old new ts g gift t h is takes =
      let here : (gets_all (world_of (names_in l) w) gs).0 ≡ given_world (names_in l) w old = ap (λ (p : World × List Value). p.0) h.got in
      let few = length-append (spots_of w) (map new_spot old.things.items) in
      let many = length-append (spots_of w) (map new_spot new.things.items) in
      let long = map_long old.things.items in
      let longer = map_long new.things.items in
      let more = takes.more in
      let low : length (gift_spots w old) ≤ length (gift_spots w new) = omega (arith, few, many, long, longer, more) in
      record {
        got = all_last (world_of (names_in l) w) gs g
            ∙ ap (λ (p : World × List Value). let b = gets p.0 g in (b.0, p.1 ++ b.1 ∷ [])) h.got
            ∙ ap (λ (b : World × Value). (b.0, map (λ (t : Gift × Taken). value_of (names_in l) t.1.datum) ts ++ b.1 ∷ [])) takes.got
            ∙ ap (λ (vs : List Value). (given_world (names_in l) w new, vs)) (sym (map_last ts (gift, t)));
        taken = taken_last (world_of (names_in l) w) new gs ts g (gift, t) (taken_more (world_of (names_in l) w) old new gs ts low h.taken)
            (record {
              gift = is;
              allowed = takes.allowed ∙ ap (λ (v : World). may_give (run_face l) (outer_of l.program.now o) v g) (sym here);
              value = sym (ap (λ (b : World × Value). b.1) takes.got) ∙ ap (λ (v : World). (gets v g).1) (sym here);
              fine = takes.fine;
            });
        given = takes.given;
      }
    where
      map_long : (xs : List OwnThing) → length (map new_spot xs) ≡ length xs
      map_long [] = refl
      map_long (x ∷ xs) = ap suc (map_long xs)

      map_last : (xs : List (Gift × Taken)) (x : Gift × Taken) → map (λ (t : Gift × Taken). value_of (names_in l) t.1.datum) (xs ++ x ∷ []) ≡ map (λ (t : Gift × Taken). value_of (names_in l) t.1.datum) xs ++ value_of (names_in l) x.1.datum ∷ []
      map_last [] x = refl
      map_last (y ∷ ys) x = ap (λ (vs : List Value). value_of (names_in l) y.1.datum ∷ vs) (map_last ys x)

      all_last : (v : World) (xs : List Given) (x : Given) → gets_all v (xs ++ x ∷ []) ≡ (let a = gets_all v xs in let b = gets a.0 x in (b.0, a.1 ++ b.1 ∷ []))
      all_last v [] x = refl
      all_last v (y ∷ ys) x = ap (λ (p : World × List Value). (p.0, (gets v y).1 ∷ p.1)) (all_last (gets v y).0 ys x)

  -- the next value is taken
  pub taking_step : (values : List Gift) (i : ℕ) (d : Gift) (old new : Gifts) (ts us : List (Gift × Taken)) (t : Taken) → i < length values
      → ((gs : List Given) → AreEach (IsGift l.types l.texts) gs (take i values) → AreTakenSo gs old ts)
      → ((g : Given) → IsGiven l w old → IsGift l.types l.texts g (get_or values i d) → Takes l o w old new g t)
      → us ≡ ts ++ (get_or values i d, t) ∷ [] → (gs : List Given) → AreEach (IsGift l.types l.texts) gs (take (i + 1) values) → AreTakenSo gs new us
  taking_step values i d old new ts us t low before takes e gs each =
      let m = split_each (IsGift l.types l.texts) gs (take i values) (get_or values i d) (subst (AreEach (IsGift l.types l.texts) gs) (take_more values i d low) each) in
      let so = before m.before m.each in
      subst (λ (xs : List Given). AreTakenSo xs new us) (sym m.is)
      (subst (AreTakenSo (m.before ++ m.last ∷ []) new) (sym e) (taking_goes_on m.before old new ts m.last (get_or values i d) t so m.one (takes m.last so.given m.one)))

  -- all values are taken
  pub all_taken : (gs : List Given) (v : Values) → AreTakenSo gs v.gifts v.taken.items → AreAllTaken l o w gs v
  all_taken gs v h = record { got = h.got; taken = h.taken; given = h.given }

  -- they refer to what is there, with the objects of the move
  pub taken_fine : (before : World) (all : Gifts) (gs : List Given) (ts : List (Gift × Taken)) → AreTakenFrom l o w before all gs ts → AreFine (names_in l) (length (gift_spots w all)) (datums_of ts)
  taken_fine before all [] [] h = fine_none (names_in l) (length (gift_spots w all))
  taken_fine before all [] (t ∷ ts) h = absurd h
  taken_fine before all (g ∷ gs) [] h = absurd h
  taken_fine before all (g ∷ gs) (t ∷ ts) h = fine_more_by (names_in l) (length (gift_spots w all)) t.1.datum (datums_of ts) h.0.fine (taken_fine (gets before g).0 all gs ts h.1)
