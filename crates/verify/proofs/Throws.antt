-- What the frames of regions do to the flow.
use Rattle.std.proofs.Common.{◌≡◌, ℕ, ◌<◌, Bool, true, false, List, [], length, Option, Some, None, inl, inr, refl, sym, ap, ◌∙◌, subst, get_or-set_other, get_or-set_same}
use Rattle.std.specs.Prelude.{All, slice_get, slice_set, if◌then◌else◌}
use Rattle.std.proofs.Math.ListN.{length-set}
use Rattle.std.proofs.lemmas.Bool.{cases_eq}
use Rattle.std.proofs.lemmas.Option.{slice_get_within, get_or_from_slice_get, slice_get-get_or}
use Rattle.std.proofs.lemmas.List.Elements.{All-nil}
use Rattle.insn_set.specs.declared.form.Insn.{Insn}
use Rattle.insn_set.specs.Flow.{throws}
use Rattle.program_model.specs.declared.body.Body.{Body}
use Rattle.program_model.specs.declared.body.Region.{Region}
use Rattle.verify.specs.declared.kinds.Kind.{Kind}
use Rattle.verify.specs.declared.kinds.Kind.TheVariants as kind
use Rattle.verify.specs.declared.tables.Tables.{Tables}
use Rattle.verify.specs.Flow.{met, rises_in, raised, raised_kinds, Arrived, caught_at, caught_as, caught_in, place_at, Flowing, thrown_on, thrown_to, thrown_by, region_of, thrown_from}
use Rattle.verify.specs.Frames.{Kinds, kind_at}
use Rattle.verify.specs.Kinds.{same_kind}
use Rattle.verify.specs.Typings.{Below, IsLattice, IsBelow, AtMost, Table, IsUnder, Arrives, IsWide, catches_in, region_at, catches_by}
use Rattle.verify.proofs.Raises.{below_itself, raised_new, raised_least, raised_one_at, raised_all_long, kinds_stay}
use Rattle.verify.proofs.Arrives.{Grows, Stands, grows_same, grows_on, at_most_itself, at_most_on, arrives_below, under_on, some_same}
use Rattle.verify.proofs.Reaches.{Reaches, all_from, all_both, CaughtAt, Catches, caught_reaches}

-- ---- what is thrown: null, or nothing that is known

pub data IsThrown : Kind → Type 0 where
  of_null : IsThrown kind.Null
  of_nothing : IsThrown kind.Undefined

pub thrown_raised : (t : Tables) (x y : Kind) → IsThrown x → IsThrown y → IsThrown (raised t x y)
thrown_raised t x y of_null of_null = of_null
thrown_raised t x y of_null of_nothing = of_nothing
thrown_raised t x y of_nothing of_null = of_nothing
thrown_raised t x y of_nothing of_nothing = of_nothing

caught_least : (t : Tables) (x y k u : Kind) → IsThrown x → IsThrown y → Below t (caught_at x k) u → Below t (caught_at y k) u → Below t (caught_at (raised t x y) k) u
caught_least t x y k u of_null of_null p q = p
caught_least t x y k u of_null of_nothing p q = q
caught_least t x y k u of_nothing of_null p q = p
caught_least t x y k u of_nothing of_nothing p q = p

same_either : (c : Bool) (k : Kind) → (if c then k else k) ≡ k
same_either true k = refl
same_either false k = refl

pub below_undefined : (t : Tables) → IsLattice t → (k : Kind) → Below t k kind.Undefined
below_undefined t l k = l.swaps k kind.Undefined ∙ same_either (same_kind kind.Undefined k) kind.Undefined

caught_new : (t : Tables) → IsLattice t → (x y k : Kind) → IsThrown x → IsThrown y → Below t (caught_at x k) (caught_at (raised t x y) k)
caught_new t l x y k of_null of_null = below_itself t k
caught_new t l x y k of_null of_nothing = below_undefined t l k
caught_new t l x y k of_nothing of_null = below_itself t kind.Undefined
caught_new t l x y k of_nothing of_nothing = below_itself t kind.Undefined

-- ---- frames of regions

module _ (t : Tables) (l : IsLattice t) (a o : Kinds) (k : Kind) (x : IsThrown a.caught) (y : IsThrown o.caught) where
  kinds_caught_new : length a.registers ≡ length o.registers → IsBelow t (caught_as a k) (caught_as (raised_kinds t a o) k)
  kinds_caught_new e = record {
    long = e ∙ sym (raised_all_long t a.registers o.registers);
    registers = λ r. subst (Below t (kind_at a.registers r)) (sym (raised_one_at t a.registers o.registers r e)) (raised_new t l (kind_at a.registers r) (kind_at o.registers r));
    result = raised_new t l a.result o.result;
    caught = caught_new t l a.caught o.caught k x y;
    receiver = raised_new t l a.receiver o.receiver;
  }

  kinds_caught_least : (c : Kinds) → IsBelow t (caught_as a k) c → IsBelow t (caught_as o k) c → IsBelow t (caught_as (raised_kinds t a o) k) c
  kinds_caught_least c p q = record {
    long = raised_all_long t a.registers o.registers ∙ q.long;
    registers = λ r. subst (λ z. Below t z (kind_at c.registers r)) (sym (raised_one_at t a.registers o.registers r (p.long ∙ sym q.long))) (raised_least t l (kind_at a.registers r) (kind_at o.registers r) (kind_at c.registers r) (p.registers r) (q.registers r));
    result = raised_least t l a.result o.result c.result p.result q.result;
    caught = caught_least t a.caught o.caught k c.caught x y p.caught q.caught;
    receiver = raised_least t l a.receiver o.receiver c.receiver p.receiver q.receiver;
  }

  caught_both : (u : Option Kinds) → AtMost t (Some (caught_as a k)) u → AtMost t (Some (caught_as o k)) u → AtMost t (Some (caught_as (raised_kinds t a o) k)) u
  caught_both None p q = p
  caught_both (Some c) p q = kinds_caught_least c p q

-- each region's frame has so many registers, and is thrown
pub record AreThrown (m : ℕ) (rs : Table) : Type 0 where
  pub wide : IsWide m rs
  pub thrown : (r : ℕ) (a : Kinds) → place_at rs r ≡ Some a → IsThrown a.caught

-- what stands at the regions arrives at their handlers
pub record Settles (t : Tables) (b : Body) (rs : Table) (y : Table) : Type 0 where
  pub each : (r : ℕ) (g : Region) (a : Kinds) → slice_get b.regions r ≡ Some g → place_at rs r ≡ Some a → Catches t g a y

pub settles_on : (t : Tables) (b : Body) (rs x y : Table) (up : (g : Region) (a : Kinds) → Catches t g a x → Catches t g a y) → Settles t b rs x → Settles t b rs y
settles_on t b rs x y up s = record { each = λ r g a e p. up g a (s.each r g a e p) }

-- The flow is the least above the first one at which the demand holds, which holds of what is higher too.
pub record Follows (t : Tables) (m : ℕ) (b : Body) (P : Table → Type 0) (f f' : Flowing) : Type 1 where
  pub grows : Grows t m f.arrivals f'.arrivals
  pub long : length f'.regions ≡ length f.regions
  pub thrown : AreThrown m f'.regions
  pub up : IsLattice t → IsUnder t f.arrivals.places f'.arrivals.places
  pub settles : IsLattice t → Settles t b f.regions f.arrivals.places → Settles t b f'.regions f'.arrivals.places
  pub holds : IsLattice t → Settles t b f.regions f.arrivals.places → P f'.arrivals.places
  pub under : IsLattice t → (y : Table) → length y ≡ length f.arrivals.places → P y → IsUnder t f.arrivals.places y → Settles t b f.regions y → IsUnder t f'.arrivals.places y × Settles t b f'.regions y
  pub higher : IsLattice t → (x y : Table) → length y ≡ length x → IsUnder t x y → P x → P y

-- a region's arrivals stay at what is higher
pub catches_on : (t : Tables) (l : IsLattice t) (x y : Table) (g : Region) (a : Kinds) → length y ≡ length x → IsUnder t x y → Catches t g a x → Catches t g a y
catches_on t l x y g a e u c = all_from (CaughtAt t a x) (CaughtAt t a y) (catches_in t (Some g)) (λ h p. arrives_on' h p) c
  where
    use_on : (q : ℕ) (k : Kinds) → Arrives t x q k → Arrives t y q k
    use_on q k h lt = at_most_on t l (Some k) (place_at x q) (place_at y q) (h (subst (λ z. q < z) e lt)) (u q)

    arrives_on' : (h : ℕ × Kind) → CaughtAt t a x h → CaughtAt t a y h
    arrives_on' h p = use_on h.0 (caught_as a h.1) p

pub follows_same : (t : Tables) (m : ℕ) (b : Body) (P : Table → Type 0) (f : Flowing) → Stands m f.arrivals → AreThrown m f.regions → ((y : Table) → P y) → Follows t m b P f f
follows_same t m b P f s r h = record {
  grows = grows_same t m f.arrivals s;
  long = refl;
  thrown = r;
  up = λ l n. at_most_itself t (place_at f.arrivals.places n);
  settles = λ l c. c;
  holds = λ l c. h f.arrivals.places;
  under = λ l y e p u c. (u, c);
  higher = λ l x y e u p. h y;
}

pub follows_on : (t : Tables) (m : ℕ) (b : Body) (P Q R : Table → Type 0) (f f' f'' : Flowing) → ((y : Table) → P y → Q y → R y) → ((y : Table) → R y → P y) → ((y : Table) → R y → Q y) → Follows t m b P f f' → Follows t m b Q f' f'' → Follows t m b R f f''
follows_on t m b P Q R f f' f'' both first second c d = record {
  grows = grows_on t m f.arrivals f'.arrivals f''.arrivals c.grows d.grows;
  long = d.long ∙ c.long;
  thrown = d.thrown;
  up = λ l. under_on t l f.arrivals.places f'.arrivals.places f''.arrivals.places (c.up l) (d.up l);
  settles = λ l s. d.settles l (c.settles l s);
  holds = λ l s. both f''.arrivals.places (c.higher l f'.arrivals.places f''.arrivals.places d.grows.long (d.up l) (c.holds l s)) (d.holds l (c.settles l s));
  under = λ l y e r u s. let k = c.under l y e (first y r) u s in d.under l y (e ∙ sym c.grows.long) (second y r) k.0 k.1;
  higher = λ l x y e u r. both y (c.higher l x y e u (first x r)) (d.higher l x y e u (second x r));
}

pub follows_as : (t : Tables) (m : ℕ) (b : Body) (P Q : Table → Type 0) (f f' : Flowing) → ((y : Table) → P y → Q y) → ((y : Table) → Q y → P y) → Follows t m b P f f' → Follows t m b Q f f'
follows_as t m b P Q f f' to from c = record {
  grows = c.grows;
  long = c.long;
  thrown = c.thrown;
  up = c.up;
  settles = c.settles;
  holds = λ l s. to f'.arrivals.places (c.holds l s);
  under = λ l y e q u s. c.under l y e (from y q) u s;
  higher = λ l x y e u q. to y (c.higher l x y e u (from x q));
}

-- frames arrive at positions, and the regions stay
pub follows_arrivals : (t : Tables) (m : ℕ) (b : Body) (P : Table → Type 0) (f : Flowing) (w : Arrived) → AreThrown m f.regions → Reaches t m P f.arrivals w → Follows t m b P f (record f { arrivals = w })
follows_arrivals t m b P f w r c = record {
  grows = c.grows;
  long = refl;
  thrown = r;
  up = c.up;
  settles = λ l s. settles_on t b f.regions f.arrivals.places w.places (λ g a k. catches_on t l f.arrivals.places w.places g a c.grows.long (c.up l) k) s;
  holds = λ l s. c.holds l;
  under = λ l y e p u s. (c.under l y e p u, s);
  higher = c.higher;
}

-- ---- a frame is thrown in a region

module _ (t : Tables) (m : ℕ) (b : Body) (g : Region) (r : ℕ) (a : Kinds) (f : Flowing) (old : Option Kinds) (is_region : slice_get b.regions r ≡ Some g) (is_old : slice_get f.regions r ≡ Some old)
    (s : Stands m f.arrivals) (z : AreThrown m f.regions) (width : length a.registers ≡ m) (x : IsThrown a.caught) where
  inside : r < length f.regions
  inside = slice_get_within f.regions r old is_old

  here_old : place_at f.regions r ≡ old
  here_old = get_or_from_slice_get f.regions r old None is_old

  abbrev rs : Table
  rs = slice_set f.regions r (Some (met t a old))

  here_new : place_at rs r ≡ Some (met t a old)
  here_new = get_or-set_same f.regions r (Some (met t a old)) None inside

  at_region : (P : ℕ → Option Kinds → Type 0) → P r (Some (met t a old)) → ((n : ℕ) → P n (place_at f.regions n)) → (n : ℕ) → P n (place_at rs n)
  at_region P p q n = elim (cases_eq n r) [
    | inl k ↦ subst (λ i. P i (place_at rs i)) (sym k) (subst (P r) (sym here_new) p)
    | inr k ↦ subst (P n) (sym (get_or-set_other f.regions r n (Some (met t a old)) None k)) (q n)
  ]

  met_wide : (o : Option Kinds) → old ≡ o → length (met t a o).registers ≡ m
  met_wide None e = width
  met_wide (Some o) e = raised_all_long t a.registers o.registers ∙ z.wide r o (here_old ∙ e)

  met_thrown : (o : Option Kinds) → old ≡ o → IsThrown (met t a o).caught
  met_thrown None e = x
  met_thrown (Some o) e = thrown_raised t a.caught o.caught x (z.thrown r o (here_old ∙ e))

  set_thrown : AreThrown m rs
  set_thrown = record {
    wide = at_region (λ n p. (k : Kinds) → p ≡ Some k → length k.registers ≡ m) (λ k e. subst (λ y. length y.registers ≡ m) (some_same _ _ e) (met_wide old refl)) z.wide;
    thrown = at_region (λ n p. (k : Kinds) → p ≡ Some k → IsThrown k.caught) (λ k e. subst (λ y. IsThrown y.caught) (some_same _ _ e) (met_thrown old refl)) z.thrown;
  }

  -- what arrives of the joined frame arrives of the new one, and of both together
  from_met : IsLattice t → (y : Table) (o : Option Kinds) → old ≡ o → Catches t g (met t a o) y → Catches t g a y
  from_met l y None e c = c
  from_met l y (Some o) e c = all_from (CaughtAt t (raised_kinds t a o) y) (CaughtAt t a y) (catches_in t (Some g)) (λ h p. arrives_below t l y h.0 (caught_as a h.1) (caught_as (raised_kinds t a o) h.1) (kinds_caught_new t l a o h.1 x (z.thrown r o (here_old ∙ e)) (width ∙ sym (z.wide r o (here_old ∙ e)))) p) c

  to_met : IsLattice t → (y : Table) (o : Option Kinds) → old ≡ o → Catches t g a y → Settles t b f.regions y → Catches t g (met t a o) y
  to_met l y None e c k = c
  to_met l y (Some o) e c k = all_both (CaughtAt t a y) (CaughtAt t o y) (CaughtAt t (raised_kinds t a o) y) (catches_in t (Some g)) (λ h p q lt. caught_both t l a o h.1 x (z.thrown r o (here_old ∙ e)) (place_at y h.0) (p lt) (q lt)) c (k.each r g o is_region (here_old ∙ e))

  -- what doesn't rise stays
  met_stays : (o : Option Kinds) → old ≡ o → rises_in t a o ≡ false → (k : Kinds) → o ≡ Some k → met t a o ≡ k
  met_stays None e f k q = absurd (cc)
  met_stays (Some o) e f k q = kinds_stay t a o f ∙ some_same o k q

  stays_some : (o : Option Kinds) → old ≡ o → rises_in t a o ≡ false → old ≡ Some (met t a o)
  stays_some None e f = absurd (cc)
  stays_some (Some o) e f = e ∙ ap Some (sym (kinds_stay t a o f))

  -- the regions settle where the joined frame arrives
  settles_set : (y : Table) → Catches t g (met t a old) y → Settles t b f.regions y → Settles t b rs y
  settles_set y c k = record {
    each = λ n g' v e p. at_region (λ n o. (g' : Region) (v : Kinds) → slice_get b.regions n ≡ Some g' → o ≡ Some v → Catches t g' v y)
        (λ g' v e p. subst (λ w. Catches t g' w y) (some_same _ _ p) (subst (λ h. Catches t h (met t a old) y) (some_same _ _ (sym is_region ∙ e)) c))
        (λ n g' v e p. k.each n g' v e p) n g' v e p;
  }

  follows_if : (c : Bool) → rises_in t a old ≡ c → Follows t m b (Catches t g a) f (record { arrivals = if c then caught_in t g (met t a old) f.arrivals else f.arrivals; regions = rs })
  follows_if true e =
      let c = caught_reaches t m g (met t a old) f.arrivals s (met_wide old refl) in
      record {
        grows = c.grows;
        long = length-set f.regions r (Some (met t a old));
        thrown = set_thrown;
        up = c.up;
        settles = λ l k. settles_set _ (c.holds l) (settles_on t b f.regions f.arrivals.places _ (λ h v q. catches_on t l f.arrivals.places _ h v c.grows.long (c.up l) q) k);
        holds = λ l k. from_met l _ old refl (c.holds l);
        under = λ l y n p u k. let q = to_met l y old refl p k in (c.under l y n q u, settles_set y q k);
        higher = λ l v y n u p. catches_on t l v y g a n u p;
      }
  follows_if false e =
      let here : (y : Table) → Settles t b f.regions y → Catches t g (met t a old) y = λ y k. k.each r g (met t a old) is_region (here_old ∙ stays_some old refl e) in
      record {
        grows = grows_same t m f.arrivals s;
        long = length-set f.regions r (Some (met t a old));
        thrown = set_thrown;
        up = λ l n. at_most_itself t (place_at f.arrivals.places n);
        settles = λ l k. settles_set _ (here _ k) k;
        holds = λ l k. from_met l _ old refl (here _ k);
        under = λ l y n p u k. (u, settles_set y (here y k) k);
        higher = λ l v y n u p. catches_on t l v y g a n u p;
      }

  pub follows_region : Follows t m b (Catches t g a) f (thrown_on t g r a f (Some old))
  follows_region = follows_if (rises_in t a old) refl

-- what a position throws arrives at the handlers of its region
abbrev pub Caught : Tables → Body → Insn → Option ℕ → Kinds → Table → Type 0
Caught t b i r a y = All (CaughtAt t a y) (catches_by t b i r)

module _ (t : Tables) (m : ℕ) (b : Body) (a : Kinds) (f : Flowing) (s : Stands m f.arrivals) (z : AreThrown m f.regions) (long : length f.regions ≡ length b.regions) (width : length a.registers ≡ m) (x : IsThrown a.caught) where
  follows_to : (r : ℕ) (g : Option Region) → slice_get b.regions r ≡ g → Follows t m b (λ y. All (CaughtAt t a y) (catches_in t g)) f (thrown_to t g r a f)
  follows_to r None e = follows_same t m b (λ y. All (CaughtAt t a y) []) f s z (λ y. All-nil (CaughtAt t a y))
  follows_to r (Some g) e =
      let lt : r < length f.regions = subst (λ k. r < k) (sym long) (slice_get_within b.regions r g e) in
      let is : slice_get f.regions r ≡ Some (place_at f.regions r) = slice_get-get_or f.regions r None lt in
      subst (λ o. Follows t m b (Catches t g a) f (thrown_on t g r a f o)) (sym is) (follows_region t m b g r a f (place_at f.regions r) e is s z width x)

  follows_by : (r : Option ℕ) → Follows t m b (λ y. All (CaughtAt t a y) (catches_in t (region_at b r))) f (thrown_by t b r a f)
  follows_by None = follows_same t m b (λ y. All (CaughtAt t a y) []) f s z (λ y. All-nil (CaughtAt t a y))
  follows_by (Some r) = follows_to r (slice_get b.regions r) refl

pub follows_throw : (t : Tables) (m : ℕ) (b : Body) (cs : List (Option ℕ)) (n : ℕ) (i : Insn) (thrown : Kind) (a : Kinds) (f : Flowing) → Stands m f.arrivals → AreThrown m f.regions → length f.regions ≡ length b.regions → length a.registers ≡ m → IsThrown thrown
    → Follows t m b (Caught t b i (region_of cs n) (record a { caught = thrown })) f (thrown_from t b cs n i thrown a f)
follows_throw t m b cs n i thrown a f s z long width x = go (throws i)
  where
    a' : Kinds
    a' = record a { caught = thrown }

    go : (c : Bool) → Follows t m b (λ y. All (CaughtAt t a' y) (if c then catches_in t (region_at b (region_of cs n)) else [])) f (if c then thrown_by t b (region_of cs n) a' f else f)
    go false = follows_same t m b (λ y. All (CaughtAt t a' y) []) f s z (λ y. All-nil (CaughtAt t a' y))
    go true = follows_by t m b a' f s z long width x (region_of cs n)
