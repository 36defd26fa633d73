-- No walk through a body that keeps the rules leaves it, and how a walk comes to a position.
use Rattle.std.proofs.Common.{◌≡◌, ◌⊎◌, inl, inr, ℕ, zero, suc, ◌+◌, ◌<◌, ◌≤◌, Bool, true, false, true≢false, if◌then◌else◌, cond, List, [], ◌∷◌, ◌++◌, map, length, Option, Some, None, slice_get, Contains, refl, sym, ap, ◌∙◌, subst, arith, eq-eqb, ltb-true}
use Rattle.std.specs.Prelude.{◌&&◌, ◌||◌, nat_eq, nat_le, nat_lt, option_to_list}
use Rattle.std.specs.List.{list_any}
use Rattle.std.proofs.lemmas.Bool.{leb-true}
use Rattle.std.proofs.lemmas.List.{length-map}
use Rattle.std.proofs.lemmas.List.Elements.{Contains-append_cases, Contains-append_left, Contains-append_right}
use Rattle.lemmas.proofs.Bools.{clash}
use Rattle.lemmas.proofs.Lists.{contains_here, contains_there}
use Rattle.lemmas.proofs.Options.{some_same}
use Rattle.insn_set.specs.Flow.{throws, goes_on, targets_of}
use Rattle.insn_set.specs.declared.form.Insn.{Insn}
use Rattle.program_model.specs.BodyRules.{is_rest, handles_at, body_fits, may_enter}
use Rattle.program_model.specs.RegionRules.{may_begin, rest_fits}
use Rattle.program_model.specs.declared.body.Body.{Body}
use Rattle.program_model.specs.declared.body.Handler.{Handler}
use Rattle.program_model.specs.declared.body.Region.{Region}
use Rattle.program_model.specs.declared.program.Program.{Program}
use Rattle.dalvik_defs.specs.Naming.{form_of, body_of}
use Rattle.flow_cfg.specs.Walks.{next_of, handlers_in, covers, successors_of}
use Rattle.body_graph.specs.Walks.{insn_at, onward, caught, Walk, IsReached}
use Rattle.body_graph.specs.Walks as walk
use Rattle.body_graph.specs.Graph.{covering}
use Rattle.body_graph.proofs.Members.{first, there, get_inside}
use Rattle.body_graph.proofs.Links.{step_insn, step_on, step_caught, caught_of, caught_by}
use Rattle.pass_defs.specs.Walks as named
use Rattle.program_laws.proofs.ChangedLists.{and_left}
use Rattle.thin_laws.proofs.Kept.{enter_begin}
use Rattle.thin_laws.proofs.Rules.{first_begins, next_there, target_there, may_begin_at, rest_of}
use Rattle.removal_bridge.proofs.Walked.{reached_by_number}

-- ---- lists

pub get_contains : {A : Type 0} (xs : List A) (n : ℕ) (x : A) → slice_get xs n ≡ Some x → Contains xs x
get_contains [] n x e = absurd (cc)
get_contains {A} (y ∷ ys) zero x e = subst (λ (z : A). Contains (y ∷ ys) z) (some_same y x e) (contains_here y ys)
get_contains (y ∷ ys) (suc n) x e = contains_there y ys x (get_contains ys n x e)

-- ---- handlers of a region

pub data Handles (r : Region) (m : ℕ) : Type 0 where
  ByHandler : (h : Handler) → Contains r.handlers h → h.position ≡ m → Handles r m
  ByRest : r.rest ≡ Some m → Handles r m

no_number : (m : ℕ) → Contains [] m → ⊥
no_number m (k, l, e) = let f : ⊥ = omega (arith, l) in absurd f

in_positions : (hs : List Handler) (m : ℕ) → Contains (map (λ h. h.position) hs) m → (h : Handler) × (Contains hs h × (h.position ≡ m))
in_positions [] m c = absurd (no_number m c)
in_positions (h ∷ hs) m (zero, l, e) = (h, (contains_here h hs, e))
in_positions (h ∷ hs) m (suc k, l, e) = let r = in_positions hs m (k, omega (arith, l), e) in (r.0, (contains_there h hs r.0 r.1.0, r.1.1))

pub handles_of : (r : Region) (m : ℕ) → Contains (handlers_in r) m → Handles r m
handles_of r m c = by (Contains-append_cases (map (λ h. h.position) r.handlers) (option_to_list r.rest) m c)
  where
    in_rest : (o : Option ℕ) → r.rest ≡ o → Contains (option_to_list o) m → Handles r m
    in_rest None e d = absurd (no_number m d)
    in_rest (Some k) e (zero, l, d) = ByRest (e ∙ ap Some d)
    in_rest (Some k) e (suc j, l, d) = let f : ⊥ = omega (arith, l) in absurd f

    by : Contains (map (λ h. h.position) r.handlers) m ⊎ Contains (option_to_list r.rest) m → Handles r m
    by (inl d) = let h = in_positions r.handlers m d in ByHandler h.0 h.1.0 h.1.1
    by (inr d) = in_rest r.rest refl d

pub of_handler : (r : Region) (h : Handler) → Contains r.handlers h → Contains (handlers_in r) h.position
of_handler r h c = Contains-append_left (map (λ h. h.position) r.handlers) (option_to_list r.rest) h.position (mapped r.handlers c)
  where
    mapped : (hs : List Handler) → Contains hs h → Contains (map (λ h. h.position) hs) h.position
    mapped [] (k, l, e) = let f : ⊥ = omega (arith, l) in absurd f
    mapped (g ∷ hs) (zero, l, e) = subst (λ (m : ℕ). Contains (g.position ∷ map (λ h. h.position) hs) m) (ap (λ (x : Handler). x.position) e) (contains_here g.position (map (λ h. h.position) hs))
    mapped (g ∷ hs) (suc k, l, e) = contains_there g.position (map (λ h. h.position) hs) h.position (mapped hs (k, omega (arith, l), e))

pub of_rest : (r : Region) (k : ℕ) → r.rest ≡ Some k → Contains (handlers_in r) k
of_rest r k e = Contains-append_right (map (λ h. h.position) r.handlers) (option_to_list r.rest) k (subst (λ (o : Option ℕ). Contains (option_to_list o) k) (sym e) (contains_here k []))

pub handles_there : (r : Region) (m : ℕ) → Handles r m → handles_at m r ≡ true
handles_there r m (ByHandler h c e) = or_first (list_any (λ (x : Handler). nat_eq x.position m) r.handlers) (is_rest m r.rest) (any_there r.handlers c)
  where
    or_first : (a b : Bool) → a ≡ true → (a || b) ≡ true
    or_first a b e = ap (λ z. z || b) e

    any_there : (hs : List Handler) → Contains hs h → list_any (λ (x : Handler). nat_eq x.position m) hs ≡ true
    any_there [] (k, l, d) = let f : ⊥ = omega (arith, l) in absurd f
    any_there (g ∷ hs) (zero, l, d) = or_first (nat_eq g.position m) (list_any (λ (x : Handler). nat_eq x.position m) hs) (eq-eqb g.position m (ap (λ (x : Handler). x.position) d ∙ e))
    any_there (g ∷ hs) (suc k, l, d) = by (nat_eq g.position m) (any_there hs (k, omega (arith, l), d))
      where
        by : (z : Bool) → list_any (λ (x : Handler). nat_eq x.position m) hs ≡ true → (z || list_any (λ (x : Handler). nat_eq x.position m) hs) ≡ true
        by true i = refl
        by false i = i
handles_there r m (ByRest e) = by (list_any (λ (x : Handler). nat_eq x.position m) r.handlers)
  where
    there : is_rest m r.rest ≡ true
    there = ap (is_rest m) e ∙ eq-eqb m m refl

    by : (z : Bool) → (z || is_rest m r.rest) ≡ true
    by true = refl
    by false = there

-- the region at a position covers it
pub covers_it : (rs : List Region) (n : ℕ) (r : Region) → slice_get rs (covering rs n) ≡ Some r → covers n r ≡ true
covers_it [] n r e = absurd (cc)
covers_it (s ∷ rs) n r e = by (covers n s) refl e (covers_it rs n r)
  where
    by : (z : Bool) → covers n s ≡ z → slice_get (s ∷ rs) (if z then 0 else suc (covering rs n)) ≡ Some r → (slice_get rs (covering rs n) ≡ Some r → covers n r ≡ true) → covers n r ≡ true
    by true d i again = subst (λ (x : Region). covers n x ≡ true) (some_same s r i) d
    by false d i again = again i

-- ---- steps

-- how a walk goes from a position to another one
pub data Step (b : Body) (n m : ℕ) : Type 0 where
  Falls : (i : Insn) → slice_get b.insns n ≡ Some i → goes_on i ≡ true → suc n ≡ m → Step b n m
  Jumps : (i : Insn) → slice_get b.insns n ≡ Some i → Contains (targets_of i) m → Step b n m
  Throws : (i : Insn) (r : Region) → slice_get b.insns n ≡ Some i → throws i ≡ true → slice_get b.regions (covering b.regions n) ≡ Some r → Handles r m → Step b n m

pub step_of : (b : Body) (n m : ℕ) → Contains (successors_of b n) m → Step b n m
step_of b n m c = by (step_insn b n m c)
  where
    next : (i : Insn) → insn_at b n ≡ Some i → (z : Bool) → goes_on i ≡ z → Contains (if z then (n + 1) ∷ [] else []) m → Step b n m
    next i e true g (zero, l, d) = Falls i e g (omega (arith, d))
    next i e true g (suc k, l, d) = let f : ⊥ = omega (arith, l) in absurd f
    next i e false g d = absurd (no_number m d)

    on : (i : Insn) → insn_at b n ≡ Some i → Contains (next_of n i) m ⊎ Contains (targets_of i) m → Step b n m
    on i e (inl d) = next i e (goes_on i) refl d
    on i e (inr d) = Jumps i e d

    by : (i : Insn) × (insn_at b n ≡ Some i) × (Contains (onward i n) m ⊎ Contains (caught b i n) m) → Step b n m
    by (i, e, inl d) = on i e (Contains-append_cases (next_of n i) (targets_of i) m d)
    by (i, e, inr d) = let h = caught_of b n m i d in Throws i h.1.0 e h.0 h.1.1 (handles_of h.1.0 m h.1.2)

pub walk_more : (next : ℕ → List ℕ) (a n m : ℕ) → Walk next a n → Contains (next n) m → Walk next a m
walk_more next a n m (walk.Stays k) c = walk.Goes n m m c (walk.Stays m)
walk_more next a n m (walk.Goes k j l step rest) c = walk.Goes a j m step (walk_more next j n m rest c)

-- the last step of a walk
pub last_step : (next : ℕ → List ℕ) (a m : ℕ) → Walk next a m → (a ≡ m) ⊎ ((k : ℕ) × (Walk next a k × Contains (next k) m))
last_step next a m (walk.Stays k) = inl refl
last_step next a m (walk.Goes k j l step rest) = by (last_step next j m rest)
  where
    by : (j ≡ m) ⊎ ((k : ℕ) × (Walk next j k × Contains (next k) m)) → (a ≡ m) ⊎ ((k : ℕ) × (Walk next a k × Contains (next k) m))
    by (inl e) = inr (a, (walk.Stays a, subst (λ (z : ℕ). Contains (next a) z) e step))
    by (inr w) = inr (w.0, (walk.Goes a j w.0 step w.1.0, w.1.1))

module _ (b : Body) where
  pub falls_on : (n : ℕ) (i : Insn) → slice_get b.insns n ≡ Some i → goes_on i ≡ true → Contains (successors_of b n) (suc n)
  falls_on n i e g = let next : n + 1 ≡ suc n = omega arith in
      subst (λ (m : ℕ). Contains (successors_of b n) m) next (step_on b n (n + 1) i e
      (Contains-append_left (next_of n i) (targets_of i) (n + 1) (subst (λ (z : Bool). Contains (if z then (n + 1) ∷ [] else []) (n + 1)) (sym g) (contains_here (n + 1) []))))

  pub jumps_on : (n m : ℕ) (i : Insn) → slice_get b.insns n ≡ Some i → Contains (targets_of i) m → Contains (successors_of b n) m
  jumps_on n m i e c = step_on b n m i e (Contains-append_right (next_of n i) (targets_of i) m c)

  pub throws_on : (n m : ℕ) (i : Insn) (r : Region) → slice_get b.insns n ≡ Some i → throws i ≡ true → slice_get b.regions (covering b.regions n) ≡ Some r → Contains (handlers_in r) m → Contains (successors_of b n) m
  throws_on n m i r e t d c = step_caught b n m i e (caught_by b n m i r t d c)

module _ (p : Program) (b : Body) (fits : body_fits p b ≡ true) where
  begins_inside : (n : ℕ) → may_begin (slice_get b.insns n) ≡ true → n < length b.insns
  begins_inside n h = by (slice_get b.insns n) refl h
    where
      by : (o : Option Insn) → slice_get b.insns n ≡ o → may_begin o ≡ true → n < length b.insns
      by None e h = clash true refl (sym h)
      by (Some i) e h = get_inside b.insns n i e

  pub handler_begins : (n m : ℕ) (r : Region) → slice_get b.regions (covering b.regions n) ≡ Some r → Handles r m → may_begin (slice_get b.insns m) ≡ true
  handler_begins n m r d (ByHandler h c e) = subst (λ (k : ℕ). may_begin (slice_get b.insns k) ≡ true) e (may_begin_at p b fits r (get_contains b.regions (covering b.regions n) r d) h c)
  handler_begins n m r d (ByRest e) = subst (λ (o : Option ℕ). rest_fits b.insns o ≡ true) e (rest_of p b fits r (get_contains b.regions (covering b.regions n) r d))

  pub step_inside : (n m : ℕ) → Step b n m → m < length b.insns
  step_inside n m (Falls i e g s) = let j = next_there p b fits n i e g in subst (λ (k : ℕ). k < length b.insns) s (get_inside b.insns (suc n) j.0 j.1.0)
  step_inside n m (Jumps i e c) = let j = target_there p b fits n m i e c in get_inside b.insns m j.0 j.1.0
  step_inside n m (Throws i r e t d h) = begins_inside m (handler_begins n m r d h)

  walk_inside : (a m : ℕ) → a < length b.insns → Walk (successors_of b) a m → m < length b.insns
  walk_inside a m l (walk.Stays k) = l
  walk_inside a m l (walk.Goes k j n c w) = walk_inside j m (step_inside a j (step_of b a j c)) w

  pub some_position : 0 < length b.insns
  some_position = begins_inside 0 (first_begins p b fits)

  pub reached_inside : (n : ℕ) → IsReached b n → n < length b.insns
  reached_inside n w = walk_inside 0 n some_position w

  pub named_inside : (n : ℕ) → named.IsReached (body_of p b) n → n < length (body_of p b).forms
  named_inside n w = subst (λ (k : ℕ). n < k) (sym (length-map b.insns (form_of p))) (reached_inside n ((reached_by_number p b n).0 w))

-- an image of an element
pub mapped_in : {A B : Type 0} (f : A → B) (xs : List A) (x : A) → Contains xs x → Contains (map f xs) (f x)
mapped_in f [] x (k, l, e) = let g : ⊥ = omega (arith, l) in absurd g
mapped_in {A} {B} f (y ∷ xs) x (zero, l, e) = subst (λ (z : B). Contains (f y ∷ map f xs) z) (ap f e) (contains_here (f y) (map f xs))
mapped_in f (y ∷ xs) x (suc k, l, e) = contains_there (f y) (map f xs) (f x) (mapped_in f xs x (k, omega (arith, l), e))
