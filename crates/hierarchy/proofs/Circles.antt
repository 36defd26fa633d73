-- A walk to the classes above one comes back to it just where it is its own ancestor.
use Rattle.std.proofs.Common.{◌≡◌, ℕ, zero, suc, ◌+◌, ◌<◌, ◌≤◌, ◌⊎◌, inl, inr, Bool, true, false, List, [], ◌∷◌, ◌++◌, length, Option, Some, None, refl, sym, ap, subst, ◌∙◌, arith, replicate, slice_index}
use Rattle.std.specs.Prelude.{slice_index_or, slice_set}
use Rattle.std.specs.List.{list_all}
use Rattle.class_defs.specs.ClassGraph.{StepsTo}
use Rattle.hierarchy.specs.Climbing.{In, IsUp, IsCircle, ups}
use Rattle.hierarchy.specs.Circling.{IsRising, Decides}
use Rattle.hierarchy.specs.Walking.{Visits}
use Rattle.hierarchy.proofs.Above.{in_split, in_left, in_right, all_in}
use Rattle.hierarchy.proofs.Climbs.{Leads, steps_more}
use Rattle.hierarchy.proofs.Marks.{marked_at, set_size, before_or_at}

pub stays_seen : (l : List Bool) (x c : ℕ) → slice_index_or l c false ≡ true → slice_index_or (slice_set l x true) c false ≡ true
stays_seen [] x c e = e
stays_seen (b ∷ bs) zero zero e = refl
stays_seen (b ∷ bs) zero (suc c) e = e
stays_seen (b ∷ bs) (suc x) zero e = e
stays_seen (b ∷ bs) (suc x) (suc c) e = stays_seen bs x c e

pub is_seen_now : (l : List Bool) (x : ℕ) → x < length l → slice_index_or (slice_set l x true) x false ≡ true
is_seen_now [] x lt = absurd (omega (arith, lt))
is_seen_now (b ∷ bs) zero lt = refl
is_seen_now (b ∷ bs) (suc x) lt = is_seen_now bs x (omega (arith, lt))

module _ (up : ℕ → List ℕ) (n class : ℕ) where
  abbrev pub Reached : List Bool → List ℕ → ℕ → Type 0
  Reached seen stack u = (slice_index_or seen u false ≡ true) ⊎ In u stack

  pub record Seeking (seen : List Bool) (stack : List ℕ) : Type 0 where
    pub from : (u : ℕ) → In u stack → u < n → Leads up n class u
    pub closed : (c u : ℕ) → slice_index_or seen c false ≡ true → In u (up c) → u < n → Reached seen stack u
    pub start : (u : ℕ) → In u (up class) → u < n → Reached seen stack u
    pub own : slice_index_or seen class false ≡ true → ⊥
    pub size : length seen ≡ n

  pub seek_begins : (seen : List Bool) (stack : List ℕ) → ((c : ℕ) → slice_index_or seen c false ≡ true → ⊥) → length seen ≡ n → stack ≡ up class → Seeking seen stack
  seek_begins seen stack none size is = record {
    from = λ u i l. record { mids = []; steps = record { there = subst (In u) is i; short = l } };
    closed = λ c u e i l. absurd (none c e);
    start = λ u i l. inr (subst (In u) (sym is) i);
    own = none class;
    size = size;
  }

  pub seek_hits : (seen : List Bool) (stack rest : List ℕ) (x : ℕ) → stack ≡ x ∷ rest → x ≡ class → class < n → Seeking seen stack → Leads up n class class
  seek_hits seen stack rest x e s l g = g.from class (subst (In class) (sym e) (inl (sym s))) l

  seek_passes : (seen : List Bool) (rest : List ℕ) (x : ℕ) → (slice_index_or seen x false ≡ true) ⊎ (length seen ≤ x) → Seeking seen (x ∷ rest) → Seeking seen rest
  seek_passes seen rest x why g = record {
    from = λ u i l. g.from u (inr i) l;
    closed = λ c u e i l. without u l (g.closed c u e i l);
    start = λ u i l. without u l (g.start u i l);
    own = g.own;
    size = g.size;
  }
    where
      without : (u : ℕ) → u < n → Reached seen (x ∷ rest) u → Reached seen rest u
      without u l (inl e) = inl e
      without u l (inr (inr i)) = inr i
      without u l (inr (inl s)) = elim why [
        | inl e ↦ inl (ap (λ c. slice_index_or seen c false) s ∙ e)
        | inr le ↦ (let z = g.size in absurd (omega (arith, l, le, s, z)))
      ]

  seek_opens : (seen : List Bool) (rest : List ℕ) (x : ℕ) → (x ≡ class → ⊥) → x < length seen → Seeking seen (x ∷ rest) → Seeking (slice_set seen x true) (up x ++ rest)
  seek_opens seen rest x other short g = record {
    from = λ u i l. elim (in_split u (up x) rest i) [
      | inl j ↦ (
          let f = g.from x (inl refl) (let z = g.size in omega (arith, short, z)) in
          record { mids = f.mids ++ x ∷ []; steps = steps_more (IsUp up n) class x u f.mids f.steps (record { there = j; short = l }) }
          )
      | inr j ↦ g.from u (inr j) l
    ];
    closed = λ c u e i l. elim (marked_at seen x c e) [
      | inl s ↦ inr (in_left u (up x) rest (subst (λ d. In u (up d)) s i))
      | inr f ↦ on u (g.closed c u f i l)
    ];
    start = λ u i l. on u (g.start u i l);
    own = λ e. elim (marked_at seen x class e) [ inl s ↦ other (sym s) | inr f ↦ g.own f ];
    size = set_size seen x true ∙ g.size;
  }
    where
      on : (u : ℕ) → Reached seen (x ∷ rest) u → Reached (slice_set seen x true) (up x ++ rest) u
      on u (inl e) = inl (stays_seen seen x u e)
      on u (inr (inl s)) = inl (ap (λ c. slice_index_or (slice_set seen x true) c false) s ∙ is_seen_now seen x short)
      on u (inr (inr i)) = inr (in_right u (up x) rest i)

  pub seek_on : (seen seen' : List Bool) (stack rest stack' above : List ℕ) (x : ℕ) (r : Option ℕ) → stack ≡ x ∷ rest → above ≡ up x → (x ≡ class → ⊥) → Visits seen rest x None above seen' stack' r → Seeking seen stack → Seeking seen' stack'
  seek_on seen seen' stack rest stack' above x r e a other (inl k) g =
      subst (λ l. Seeking l stack') (sym k.same) (subst (Seeking seen) (sym k.rest) (seek_passes seen rest x k.why (subst (Seeking seen) e g)))
  seek_on seen seen' stack rest stack' above x r e a other (inr (inl k)) g = let z : None ≡ Some k.place = k.there in cc
  seek_on seen seen' stack rest stack' above x r e a other (inr (inr k)) g =
      subst (λ l. Seeking l stack') (sym k.marked) (subst (Seeking (slice_set seen x true)) (sym (k.longer ∙ ap (λ l. l ++ rest) a)) (seek_opens seen rest x other k.short (subst (Seeking seen) e g)))

  all_seen : (seen : List Bool) → Seeking seen [] → (c u : ℕ) (mids : List ℕ) → ((v : ℕ) → In v (up c) → v < n → slice_index_or seen v false ≡ true) → StepsTo (IsUp up n) c mids u → slice_index_or seen u false ≡ true
  all_seen seen g c u [] h s = h u s.there s.short
  all_seen seen g c u (m ∷ ms) h s = all_seen seen g m u ms (λ v i l. only v (g.closed m v (h m s.0.there s.0.short) i l)) s.1
    where
      only : (v : ℕ) → Reached seen [] v → slice_index_or seen v false ≡ true
      only v (inl e) = e
      only v (inr i) = absurd i

  pub seek_ends : (seen : List Bool) (stack : List ℕ) → stack ≡ [] → Seeking seen stack → Leads up n class class → ⊥
  seek_ends seen stack e g l =
      let g' : Seeking seen [] = subst (Seeking seen) e g in
      g'.own (all_seen seen g' class class l.mids (λ v i k. elim (g'.start v i k) as (λ _. slice_index_or seen v false ≡ true) [ inl f ↦ f | inr j ↦ absurd j ]) l.steps)

-- ---- levels

module _ (supers : List ℕ) (rows : List (List ℕ)) (levels : List ℕ) (r : IsRising supers rows levels) where
  never_falls : (c u : ℕ) (mids : List ℕ) → c < length supers → StepsTo (IsUp (ups supers rows) (length supers)) c mids u → slice_index levels c ≤ slice_index levels u
  never_falls c u [] l s = r.each c u l s.there
  never_falls c u (m ∷ ms) l s = let one = r.each c m l s.0.there in let more = never_falls m u ms s.0.short s.1 in omega (arith, one, more)

  pub lower_is_none : (c : ℕ) → ((u : ℕ) → In u (ups supers rows c) → slice_index levels c < slice_index levels u) → IsCircle supers rows c → ⊥
  lower_is_none c h i = by_steps i.mids i.steps
    where
      by_steps : (mids : List ℕ) → StepsTo (IsUp (ups supers rows) (length supers)) c mids c → ⊥
      by_steps [] s = let k = h c s.there in omega (arith, k)
      by_steps (m ∷ ms) s = let k = h m s.0.there in let more = never_falls m c ms s.0.short s.1 in omega (arith, k, more)

zero_at : (n i : ℕ) → slice_index (replicate n 0) i ≡ 0
zero_at zero i = refl
zero_at (suc n) zero = refl
zero_at (suc n) (suc i) = zero_at n i

pub same_rise : (supers : List ℕ) (rows : List (List ℕ)) (levels : List ℕ) (n : ℕ) → levels ≡ replicate n 0 → IsRising supers rows levels
same_rise supers rows levels n e = subst (IsRising supers rows) (sym e) (record { each = λ c u l i. (let a = zero_at n c in let b = zero_at n u in omega (arith, a, b)) })

-- ---- what is answered

pub leads_circle : (supers : List ℕ) (rows : List (List ℕ)) (class : ℕ) → Leads (ups supers rows) (length supers) class class → IsCircle supers rows class
leads_circle supers rows class l = record { mids = l.mids; steps = l.steps }

pub circle_leads : (supers : List ℕ) (rows : List (List ℕ)) (class : ℕ) → IsCircle supers rows class → Leads (ups supers rows) (length supers) class class
circle_leads supers rows class l = record { mids = l.mids; steps = l.steps }

-- ---- tests of levels

pub all_joined : (t : ℕ → Bool) (us vs : List ℕ) (u : ℕ) → list_all t us ≡ true → list_all t vs ≡ true → In u (us ++ vs) → t u ≡ true
all_joined t us vs u h k i = elim (in_split u us vs i) [ inl j ↦ all_in t us u h j | inr j ↦ all_in t vs u k j ]

pub decided : (supers : List ℕ) (rows : List (List ℕ)) (class : ℕ) (b c : Bool) → b ≡ c → Decides supers rows class b → Decides supers rows class c
decided supers rows class b c e d = subst (Decides supers rows class) e d

pub none_more : (supers : List ℕ) (rows : List (List ℕ)) (n : ℕ) → ((c : ℕ) → c < n → IsCircle supers rows c → ⊥) → (IsCircle supers rows n → ⊥) → (c : ℕ) → c < n + 1 → IsCircle supers rows c → ⊥
none_more supers rows n h k c l = elim (before_or_at c n l) [ inl b ↦ h c b | inr e ↦ (λ i. k (subst (IsCircle supers rows) e i)) ]

-- nothing is looked for, so nothing is found
pub never : (seen seen' : List Bool) (rest stack' above : List ℕ) (x : ℕ) (r : Option ℕ) → Visits seen rest x None above seen' stack' r → r ≡ None
never seen seen' rest stack' above x r (inl k) = k.nothing
never seen seen' rest stack' above x r (inr (inl k)) = let z : None ≡ Some k.place = k.there in cc
never seen seen' rest stack' above x r (inr (inr k)) = k.nothing
