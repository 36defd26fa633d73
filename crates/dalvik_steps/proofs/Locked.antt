-- Monitors, by numbers and by names.
use Rattle.std.proofs.Common.{◌≡◌, ℕ, zero, suc, ◌+◌, ◌<◌, ◌≤◌, inl, inr, Bool, true, false, true≢false, List, [], ◌∷◌, length, map, nat_eq, arith, eqb-true, eq-eqb, ◌⊎◌, ap, refl, sym, subst, ◌∙◌}
use Rattle.std.specs.Prelude.{◌&&◌, Option, Some, None, cond, slice_get}
use Rattle.std.specs.HashMap.{PutsEntry}
use Rattle.std.specs.Map.{lookup}
use Rattle.std.specs.Option.{option_map, unwrap_or}
use Rattle.dalvik_lookups.specs.Tables.{IsRight}
use Rattle.dalvik_lookups.specs.declared.lookups.Lookups.{Lookups}
use Rattle.dalvik_lookups.proofs.Interned.{same_number, text_same, text_sound}
use Rattle.dalvik_defs.specs.Names.{Text}
use Rattle.dalvik_defs.specs.Outcome.{with_lock}
use Rattle.dalvik_defs.specs.Show.{show, show_at, place_in, is_printed, mark_printed}
use Rattle.dalvik_defs.specs.State.{World as NamedWorld, kind_of, put_lock, same_value}
use Rattle.dalvik_defs.specs.declared.events.Shown.{Shown}
use Rattle.dalvik_defs.specs.declared.events.Shown.TheVariants as shown
use Rattle.dalvik_defs.specs.declared.state.Value.{Value}
use Rattle.dalvik_defs.specs.declared.state.Value.TheVariants as value
use Rattle.dalvik_state.specs.declared.datum.Datum.{Datum}
use Rattle.dalvik_state.specs.declared.datum.Datum.TheVariants as datum
use Rattle.dalvik_state.specs.Frames.{same_in}
use Rattle.dalvik_state.specs.Drafts.{IsDraft, IsLater, IsShown}
use Rattle.dalvik_state.specs.States.{AreKinds, ArePlaced, IsSound}
use Rattle.dalvik_state.specs.Views.{exposed_of, lock_in, names_in, static_in, things_from, value_of, world_of, AreFineLocks, AreFineSpots, IsFine, Names, TellsApart}
use Rattle.dalvik_state.specs.Worlds.{spot_of, spots_of, IsShort, Spot}
use Rattle.dalvik_state.specs.declared.shows.Draft.{Draft}
use Rattle.dalvik_state.proofs.Later.{draft_later}
use Rattle.dalvik_state.proofs.Sameness.{same_named}
use Rattle.dalvik_state.specs.declared.world.World.{World}
use Rattle.dalvik_state.proofs.Locks.{lock_named}
use Rattle.dalvik_steps.specs.Reaching.{HasKey, IsLockShown, PutsLock}

-- ---- showing leaves the locks

abbrev shown_by : NamedWorld → ℕ → ℕ → Bool → NamedWorld × Shown
shown_by w n i b = elim b as (λ b. NamedWorld × Shown) [ true ↦ (w, shown.Again i) | false ↦ (record w { exposed = mark_printed n w.exposed }, shown.First i (kind_of w (value.Object n))) ]

pub show_locked : (w : NamedWorld) (locks : Value → ℕ) (kind : Text) (v : Value) → show (record w { locks = locks }) kind v ≡ (record (show w kind v).0 { locks = locks }, (show w kind v).1)
show_locked w locks kind (value.Word n) = refl
show_locked w locks kind (value.Low n) = refl
show_locked w locks kind (value.High n) = refl
show_locked w locks kind (value.Literal t) = refl
show_locked w locks kind (value.Class t) = refl
show_locked w locks kind (value.Object n) = by (place_in w.exposed n)
  where
    by : (o : Option ℕ) → ◌≡◌ {A = NamedWorld × Shown} (show_at (record w { locks = locks }) n o) (record (show_at w n o).0 { locks = locks }, (show_at w n o).1)
    by None = refl
    by (Some i) = printed i (is_printed w.exposed i)
      where
        printed : (i : ℕ) (b : Bool) → ◌≡◌ {A = NamedWorld × Shown} (shown_by (record w { locks = locks }) n i b) (record (shown_by w n i b).0 { locks = locks }, (shown_by w n i b).1)
        printed i true = refl
        printed i false = refl

-- ---- numbers of texts

pub tells_apart : (l : Lookups) → IsRight l → TellsApart (names_in l)
tells_apart l r = record { apart = λ i j h k e. same_number _ r.tabled.named.texts.once i j h k e }

-- ---- a count is set

-- a key that passes a test, among some
abbrev found_key : (Datum → Bool) → List (Datum × ℕ) → Type 0
found_key test es = (i : ℕ) × ((e : Datum × ℕ) × ((slice_get es i ≡ Some e) × (test e.0 ≡ true)))

none_passes : (test : Datum → Bool) (es : List (Datum × ℕ)) → ((i : ℕ) (e : Datum × ℕ) → slice_get es i ≡ Some e → test e.0 ≡ false) → lookup test es ≡ None
none_passes test [] h = refl
none_passes test (e ∷ es) h = ap (λ (b : Bool). cond b (Some e.1) (lookup test es)) (h 0 e refl) ∙ none_passes test es (λ i x f. h (suc i) x f)

-- either a key passes, or none does
pub data Passing (test : Datum → Bool) (es : List (Datum × ℕ)) : Type 0 where
  One : (i : ℕ) (e : Datum × ℕ) → slice_get es i ≡ Some e → test e.0 ≡ true → Passing test es
  No : ((i : ℕ) (e : Datum × ℕ) → slice_get es i ≡ Some e → test e.0 ≡ false) → Passing test es

passing : (test : Datum → Bool) (es : List (Datum × ℕ)) → Passing test es
passing test [] = No (λ i e f. absurd (cc))
passing test (x ∷ xs) = by (test x.0) refl (passing test xs)
  where
    by : (b : Bool) → test x.0 ≡ b → Passing test xs → Passing test (x ∷ xs)
    by true t r = One 0 x refl t
    by false t (One i e f g) = One (suc i) e f g
    by false t (No h) = No (λ i e f. all i e f)
      where
        all : (i : ℕ) (e : Datum × ℕ) → slice_get (x ∷ xs) i ≡ Some e → test e.0 ≡ false
        all zero e f = (let same : x ≡ e = cc in ap (λ (y : Datum × ℕ). test y.0) (sym same) ∙ t)
        all (suc i) e f = h i e f

-- values that are the same are equal
pub same_sound : (a b : Value) → same_value a b ≡ true → a ≡ b
same_sound (value.Word x) (value.Word y) h = ap value.Word (eqb-true x y h)
same_sound (value.Word x) (value.Low y) h = absurd (true≢false (sym h))
same_sound (value.Word x) (value.High y) h = absurd (true≢false (sym h))
same_sound (value.Word x) (value.Object y) h = absurd (true≢false (sym h))
same_sound (value.Word x) (value.Literal y) h = absurd (true≢false (sym h))
same_sound (value.Word x) (value.Class y) h = absurd (true≢false (sym h))
same_sound (value.Low x) (value.Word y) h = absurd (true≢false (sym h))
same_sound (value.Low x) (value.Low y) h = ap value.Low (eqb-true x y h)
same_sound (value.Low x) (value.High y) h = absurd (true≢false (sym h))
same_sound (value.Low x) (value.Object y) h = absurd (true≢false (sym h))
same_sound (value.Low x) (value.Literal y) h = absurd (true≢false (sym h))
same_sound (value.Low x) (value.Class y) h = absurd (true≢false (sym h))
same_sound (value.High x) (value.Word y) h = absurd (true≢false (sym h))
same_sound (value.High x) (value.Low y) h = absurd (true≢false (sym h))
same_sound (value.High x) (value.High y) h = ap value.High (eqb-true x y h)
same_sound (value.High x) (value.Object y) h = absurd (true≢false (sym h))
same_sound (value.High x) (value.Literal y) h = absurd (true≢false (sym h))
same_sound (value.High x) (value.Class y) h = absurd (true≢false (sym h))
same_sound (value.Object x) (value.Word y) h = absurd (true≢false (sym h))
same_sound (value.Object x) (value.Low y) h = absurd (true≢false (sym h))
same_sound (value.Object x) (value.High y) h = absurd (true≢false (sym h))
same_sound (value.Object x) (value.Object y) h = ap value.Object (eqb-true x y h)
same_sound (value.Object x) (value.Literal y) h = absurd (true≢false (sym h))
same_sound (value.Object x) (value.Class y) h = absurd (true≢false (sym h))
same_sound (value.Literal x) (value.Word y) h = absurd (true≢false (sym h))
same_sound (value.Literal x) (value.Low y) h = absurd (true≢false (sym h))
same_sound (value.Literal x) (value.High y) h = absurd (true≢false (sym h))
same_sound (value.Literal x) (value.Object y) h = absurd (true≢false (sym h))
same_sound (value.Literal x) (value.Literal y) h = ap value.Literal (text_sound x y h)
same_sound (value.Literal x) (value.Class y) h = absurd (true≢false (sym h))
same_sound (value.Class x) (value.Word y) h = absurd (true≢false (sym h))
same_sound (value.Class x) (value.Low y) h = absurd (true≢false (sym h))
same_sound (value.Class x) (value.High y) h = absurd (true≢false (sym h))
same_sound (value.Class x) (value.Object y) h = absurd (true≢false (sym h))
same_sound (value.Class x) (value.Literal y) h = absurd (true≢false (sym h))
same_sound (value.Class x) (value.Class y) h = ap value.Class (text_sound x y h)

pub same_self : (a : Value) → same_value a a ≡ true
same_self (value.Word x) = eq-eqb x x refl
same_self (value.Low x) = eq-eqb x x refl
same_self (value.High x) = eq-eqb x x refl
same_self (value.Object x) = eq-eqb x x refl
same_self (value.Literal x) = text_same x
same_self (value.Class x) = text_same x

unlike_value : (a b : Value) → same_value a b ≡ false → same_value b a ≡ false
unlike_value a b h = by (same_value b a) refl
  where
    by : (c : Bool) → same_value b a ≡ c → c ≡ false
    by true e = absurd (true≢false (sym (same_self a) ∙ ap (same_value a) (sym (same_sound b a e)) ∙ h))
    by false e = refl

-- ---- how often each value is locked now

module _ (n : Names) (size : ℕ) (apart : TellsApart n) (old new : World) (d : Datum) (count : ℕ) (puts : PutsLock old new d count) (fine : IsFine n size d) (olds : AreFineLocks n size old.locks.entries) where
  -- the keys are fine
  news : AreFineLocks n size new.locks.entries
  news = record { at = λ i e g. elim (puts.keys i e g) [ inl same ↦ subst (IsFine n size) (sym same) fine | inr key ↦ olds.at key.0 (e.0, key.1.0) key.1.1 ] }

  abbrev after : Value → Bool → ℕ
  after x b = elim b as (λ b. ℕ) [ true ↦ count | false ↦ lock_in n old.locks.entries x ]

  counted : (b : Bool) (o : Option ℕ) → unwrap_or (cond b (Some count) o) 0 ≡ elim b as (λ b. ℕ) [ true ↦ count | false ↦ unwrap_or o 0 ]
  counted true o = refl
  counted false o = refl

  -- at a value that a fine number stands for
  at_fine : (q : Datum) → IsFine n size q → lock_in n new.locks.entries (value_of n q) ≡ after (value_of n q) (same_value (value_of n q) (value_of n d))
  at_fine q f =
      lock_named n size apart q f new.locks.entries news
      ∙ ap (λ (o : Option ℕ). unwrap_or o 0) (puts.puts q)
      ∙ counted (same_in q d) (lookup (λ (k : Datum). same_in k q) old.locks.entries)
      ∙ sym (λ i. elim (same_named n size q d apart f fine i) as (λ b. ℕ) [ true ↦ count | false ↦ lock_named n size apart q f old.locks.entries olds i ])

  test_of : Value → Datum → Bool
  test_of x k = same_value (value_of n k) x

  at_value : (x : Value) → Passing (λ (k : Datum). same_value (value_of n k) x) old.locks.entries → (b : Bool) → same_value (value_of n d) x ≡ b → lock_in n new.locks.entries x ≡ put_lock (value_of n d) count (lock_in n old.locks.entries) x
  at_value x r true t = subst (λ (y : Value). lock_in n new.locks.entries y ≡ put_lock (value_of n d) count (lock_in n old.locks.entries) y) (same_sound (value_of n d) x t) (at_fine d fine)
  at_value x (One i e g h) false t = subst (λ (y : Value). lock_in n new.locks.entries y ≡ put_lock (value_of n d) count (lock_in n old.locks.entries) y) (same_sound (value_of n e.0) x h) (at_fine e.0 (olds.at i e g))
  at_value x (No h) false t =
      let none_new = none_passes (λ (k : Datum). same_value (value_of n k) x) new.locks.entries (λ i e g. elim (puts.keys i e g) [
        | inl same ↦ ap (λ (k : Datum). same_value (value_of n k) x) same ∙ t
        | inr key ↦ h key.0 (e.0, key.1.0) key.1.1
      ]) in
      let none_old = none_passes (λ (k : Datum). same_value (value_of n k) x) old.locks.entries h in
      ap (λ (o : Option ℕ). unwrap_or o 0) none_new
      ∙ sym (ap (after x) (unlike_value (value_of n d) x t) ∙ ap (λ (o : Option ℕ). unwrap_or o 0) none_old)

  pub locks_put : lock_in n new.locks.entries ≡ put_lock (value_of n d) count (lock_in n old.locks.entries)
  locks_put = λ i x. at_value x (passing (λ (k : Datum). same_value (value_of n k) x) old.locks.entries) (same_value (value_of n d) x) refl i

-- ---- the world with a value locked

show_locks : (w : NamedWorld) (kind : Text) (v : Value) → (show w kind v).0.locks ≡ w.locks
show_locks w kind (value.Word n) = refl
show_locks w kind (value.Low n) = refl
show_locks w kind (value.High n) = refl
show_locks w kind (value.Literal t) = refl
show_locks w kind (value.Class t) = refl
show_locks w kind (value.Object n) = by (place_in w.exposed n)
  where
    by : (o : Option ℕ) → (show_at w n o).0.locks ≡ w.locks
    by None = refl
    by (Some i) = printed i (is_printed w.exposed i)
      where
        printed : (i : ℕ) (b : Bool) → (shown_by w n i b).0.locks ≡ w.locks
        printed i true = refl
        printed i false = refl

module _ (l : Lookups) (r : IsRight l) (old new : World) (d : Datum) (count : ℕ) (puts : PutsLock old new d count) (w : IsSound l old) (fine : IsFine (names_in l) (length (spots_of old)) d) where
  abbrev n : Names
  n = names_in l

  pub locked_named : world_of n new ≡ with_lock (world_of n old) (value_of n d) count
  locked_named = λ i. record {
    heap = things_from n (puts.fields i).entries 0 (map spot_of (puts.heap i).items);
    locks = locks_put n (length (spots_of old)) (tells_apart l r) old new d count puts fine w.fine.locks i;
    statics = static_in n (puts.statics i).items;
    exposed = map exposed_of (puts.exposed i).items;
  }

  spots_same : spots_of new ≡ spots_of old
  spots_same = ap (λ h. map spot_of h.items) puts.heap

  pub locked_sound : IsSound l new
  locked_sound = record {
    fine = record {
      arrays = subst (λ (ss : List Spot). AreFineSpots n (length ss) ss) (sym spots_same) w.fine.arrays;
      fields = λ i e g. subst (λ (ss : List Spot). IsFine n (length ss) e.1) (sym spots_same) (w.fine.fields i e (ap (λ m. slice_get m.entries i) (sym puts.fields) ∙ g));
      statics = λ i c g. subst (λ (ss : List Spot). IsFine n (length ss) c) (sym spots_same) (w.fine.statics i c (ap (λ v. slice_get v.items i) (sym puts.statics) ∙ g));
      locks = subst (λ (ss : List Spot). AreFineLocks n (length ss) new.locks.entries) (sym spots_same) (news n (length (spots_of old)) (tells_apart l r) old new d count puts fine w.fine.locks);
    };
    kinds = subst (λ (ss : List Spot). AreKinds l ss) (sym spots_same) w.kinds;
    placed = subst (λ (ss : List Spot). ArePlaced ss new.exposed.items) (sym spots_same) (subst (λ v. ArePlaced (spots_of old) v.items) (sym puts.exposed) w.placed);
    written = record { at = λ i e g. subst (λ (ss : List Spot). e.0.0 < length ss) (sym spots_same) (w.written.at i e (ap (λ m. slice_get m.entries i) (sym puts.fields) ∙ g)) };
    short = subst IsShort (sym spots_same) w.short;
    statics = ap (λ v. length v.items) puts.statics ∙ w.statics;
  }

  -- a draft before is one after
  pub locked_draft : (kind : Text) (v : Value) (x : Draft) → IsDraft (world_of n old) kind v x → IsDraft (world_of n new) kind v x
  locked_draft kind v x h = subst (λ (u : NamedWorld). IsDraft u kind v x) (sym locked_named)
      (draft_later (world_of n old) (with_lock (world_of n old) (value_of n d) count) kind v x (record { longer = omega arith; kinds = λ y low. refl; printed = λ y p. p }) h)

-- what a value that was locked is shown as
pub lock_shown : (l : Lookups) (r : IsRight l) (old mid new : World) (d : Datum) (count : ℕ) (s : Shown) (puts : PutsLock old mid d count) → IsSound l old → IsFine (names_in l) (length (spots_of old)) d
    → IsShown l (kind_of (world_of (names_in l) old) (value_of (names_in l) d)) (value_of (names_in l) d) mid new s → IsLockShown l old new d count s
lock_shown l r old mid new d count s puts w fine h =
    let n = names_in l in
    let v = value_of n d in
    let kind = kind_of (world_of n old) v in
    let both : ◌≡◌ {A = NamedWorld × Shown} (record (show (world_of n old) kind v).0 { locks = put_lock v count (lock_in n old.locks.entries) }, (show (world_of n old) kind v).1) (world_of n new, s) =
    sym (show_locked (world_of n old) (put_lock v count (lock_in n old.locks.entries)) kind v) ∙ ap (λ (u : NamedWorld). show u kind v) (sym (locked_named l r old mid d count puts w fine)) ∙ h.shown in
    record {
      shown = ap (λ (x : NamedWorld × Shown). x.1) (sym both);
      named = ap (λ (x : NamedWorld × Shown). x.0) (sym both) ∙ ap (λ (f : Value → ℕ). record (show (world_of n old) kind v).0 { locks = put_lock v count f }) (sym (show_locks (world_of n old) kind v));
      sound = h.sound;
      size = h.stands.size ∙ ap (λ hs. length (map spot_of hs.items)) puts.heap;
      counts = λ i e g. puts.counts i e (ap (λ m. slice_get m.entries i) (sym h.stands.locks) ∙ g);
    }
