-- A typing of a body is one of the body in which forms are replaced by others that leave no more.
use Rattle.std.proofs.Common.{◌≡◌, ◌⊎◌, inl, inr, ℕ, zero, suc, ◌+◌, ◌<◌, Bool, true, false, true≢false, List, [], ◌∷◌, ◌++◌, length, Option, Some, None, refl, sym, ap, ap₂, ◌∙◌, subst, arith, eqb-true}
use Rattle.std.specs.Prelude.{◌&&◌, not, nat_eq, if◌then◌else◌, is_some, map, slice_get, Contains}
use Rattle.std.specs.List.{list_all}
use Rattle.lemmas.proofs.Bools.{and_left, and_right, and_both, and_false, clash, not_true, not_of_false}
use Rattle.lemmas.proofs.Lists.{all_append, all_first, all_in, all_last, all_of, get_there, got_short}
use Rattle.lemmas.proofs.Numbers.{next_is}
use Rattle.lemmas.proofs.Options.{none_some, some_same}
use Rattle.dalvik_defs.specs.declared.forms.Form.{Form}
use Rattle.dalvik_defs.specs.declared.forms.Form.TheVariants as form
use Rattle.dalvik_defs.specs.declared.program.NamedBody.{NamedBody}
use Rattle.dalvik_defs.specs.declared.program.NamedClass.{NamedClass}
use Rattle.dalvik_defs.specs.declared.program.NamedHandler.{NamedHandler}
use Rattle.dalvik_defs.specs.declared.program.NamedMethod.{NamedMethod}
use Rattle.dalvik_defs.specs.declared.program.NamedProgram.{NamedProgram}
use Rattle.dalvik_defs.specs.declared.program.NamedRegion.{NamedRegion}
use Rattle.pass_defs.specs.Bare.{may_throw}
use Rattle.pass_defs.specs.Demands.{is_allowed}
use Rattle.pass_defs.specs.Kinds.{Kind, is_below, kind_of}
use Rattle.pass_defs.specs.Quiet.{takes_result}
use Rattle.pass_defs.specs.Registers.{Kinds, all_below, kinds_below, state_below}
use Rattle.pass_defs.specs.Typed.{after, arrives, at_state, begun, catch_all, catches, catches_in, each, edges, is_wrong, state_at, Table, IsTyping}
use Rattle.pass_defs.specs.Walks.{form_at, region_at, onward, caught, listed, handlers_of}
use Rattle.program_laws.specs.Results.{gives_result, takes_none, TakesInPlace}
use Rattle.program_laws.proofs.ChangedLists.{all_from, all_map}
use Rattle.form_laws.proofs.Typings.{allowed_at, each_at, right_at, tested}
use Rattle.form_laws.specs.Typed.{IsOrdered, has_front, taken, taken_table, IsLowered, Lowers}

-- ---- tables

none_taken : (front : Bool) (f : Option Form) → taken front f None ≡ None
none_taken front f = by (takes_result f && not front)
  where
    by : (b : Bool) → ◌≡◌ {A = Option Kinds} (if b then None else None) None
    by true = refl
    by false = refl

taken_at : (front : Bool) (fs : List Form) (t : Table) (n : ℕ) → state_at (taken_table front fs t) n ≡ taken (has_front front t n) (slice_get fs n) (state_at t n)
taken_at front fs [] n = sym (none_taken (has_front front [] n) (slice_get fs n))
taken_at front [] (a ∷ t) zero = refl
taken_at front [] (a ∷ t) (suc n) = refl
taken_at front (f ∷ fs) (a ∷ t) zero = refl
taken_at front (f ∷ fs) (a ∷ t) (suc n) = taken_at (is_some a) fs t n ∙ ap (λ x. taken x (slice_get fs n) (state_at t n)) (front_next n)
  where
    front_next : (n : ℕ) → has_front (is_some a) t n ≡ is_some (state_at (a ∷ t) n)
    front_next zero = refl
    front_next (suc n) = refl

taken_long : (front : Bool) (fs : List Form) (t : Table) → length (taken_table front fs t) ≡ length t
taken_long front fs [] = refl
taken_long front [] (a ∷ t) = refl
taken_long front (f ∷ fs) (a ∷ t) = ap suc (taken_long (is_some a) fs t)

-- a state that is there was there, and had a front where a result is taken
taken_from : (front takes : Bool) (o : Option Kinds) (a : Kinds) → ◌≡◌ {A = Option Kinds} (if takes && not front then None else o) (Some a) → (o ≡ Some a) × (takes ≡ true → front ≡ true)
taken_from front false o a e = (e, λ x. absurd (true≢false (sym x)))
taken_from true true o a e = (e, λ x. refl)
taken_from false true o a e = none_some a e

-- a state that takes no result, or has a front, is there
taken_still : (front takes : Bool) (o : Option Kinds) → (takes ≡ true → front ≡ true) → (if takes && not front then None else o) ≡ o
taken_still front false o h = refl
taken_still true true o h = refl
taken_still false true o h = absurd (true≢false (sym (h refl)))

-- ---- the order of kinds

module _ (p : NamedProgram) (above : IsOrdered p) where
  all_above : (ks ls ms : List Kind) → all_below p ks ls ≡ true → all_below p ls ms ≡ true → all_below p ks ms ≡ true
  all_above [] [] ms e d = d
  all_above [] (l ∷ ls) ms e d = absurd (true≢false (sym e))
  all_above (k ∷ ks) [] ms e d = absurd (true≢false (sym e))
  all_above (k ∷ ks) (l ∷ ls) [] e d = absurd (true≢false (sym d))
  all_above (k ∷ ks) (l ∷ ls) (m ∷ ms) e d = and_both (is_below p k m) (all_below p ks ms)
      (above k l m (and_left (is_below p k l) (all_below p ks ls) e) (and_left (is_below p l m) (all_below p ls ms) d))
      (all_above ks ls ms (and_right (is_below p k l) (all_below p ks ls) e) (and_right (is_below p l m) (all_below p ls ms) d))

  four : (w x y z w' x' y' z' w'' x'' y'' z'' : Bool) → (w ≡ true → w' ≡ true → w'' ≡ true) → (x ≡ true → x' ≡ true → x'' ≡ true) → (y ≡ true → y' ≡ true → y'' ≡ true) → (z ≡ true → z' ≡ true → z'' ≡ true)
      → (w && x && y && z) ≡ true → (w' && x' && y' && z') ≡ true → (w'' && x'' && y'' && z'') ≡ true
  four w x y z w' x' y' z' w'' x'' y'' z'' f g i j e d =
      let e3 = and_left (w && x && y) z e in let d3 = and_left (w' && x' && y') z' d in
      let e2 = and_left (w && x) y e3 in let d2 = and_left (w' && x') y' d3 in
      and_both (w'' && x'' && y'') z'' (and_both (w'' && x'') y'' (and_both w'' x'' (f (and_left w x e2) (and_left w' x' d2)) (g (and_right w x e2) (and_right w' x' d2)))
      (i (and_right (w && x) y e3) (and_right (w' && x') y' d3))) (j (and_right (w && x && y) z e) (and_right (w' && x' && y') z' d))

  kinds_above : (a b : Kinds) (o : Option Kinds) → kinds_below p a b ≡ true → state_below p (Some b) o ≡ true → state_below p (Some a) o ≡ true
  kinds_above a b None e d = d
  kinds_above a b (Some c) e d = four (all_below p a.registers b.registers) (is_below p a.result b.result) (is_below p a.caught b.caught) (is_below p a.receiver b.receiver)
      (all_below p b.registers c.registers) (is_below p b.result c.result) (is_below p b.caught c.caught) (is_below p b.receiver c.receiver)
      (all_below p a.registers c.registers) (is_below p a.result c.result) (is_below p a.caught c.caught) (is_below p a.receiver c.receiver)
      (all_above a.registers b.registers c.registers) (above a.result b.result c.result) (above a.caught b.caught c.caught) (above a.receiver b.receiver c.receiver) e d

-- ---- where forms go on

-- what gives a result goes on at the next position alone
only_next : (f : Form) (n : ℕ) → gives_result f ≡ true → onward f n ≡ (n + 1) ∷ []
only_next (form.FilledNewArray kind args) n e = refl
only_next (form.Invoke kind method args) n e = refl
only_next f n e = absurd (true≢false (sym e))

each_all : (n : ℕ) (f : ℕ → Bool) → ((k : ℕ) → k < n → f k ≡ true) → each n f ≡ true
each_all zero f h = refl
each_all (suc n) f h = and_both (each n f) (f n) (each_all n f (λ k l. h k (lower k n l))) (h n (own n))
  where
    lower : (k n : ℕ) → k < n → k < suc n
    lower k n l = omega arith

    own : (n : ℕ) → n < suc n
    own n = omega arith

module _ (p : NamedProgram) (above : IsOrdered p) (c : NamedClass) (m : NamedMethod) (b d : NamedBody) (places : TakesInPlace b) (t : Table) (typing : IsTyping p c m b t) (lowered : IsLowered p c m b d t) where
  abbrev pub u : Table
  u = taken_table true b.forms t

  -- a state of the new table, and what is known of it
  was_there : (n : ℕ) (f : Form) (a : Kinds) → form_at b n ≡ Some f → state_at u n ≡ Some a → (state_at t n ≡ Some a) × (takes_result (Some f) ≡ true → has_front true t n ≡ true)
  was_there n f a i e = taken_from (has_front true t n) (takes_result (Some f)) (state_at t n) a (ap (λ o. taken (has_front true t n) o (state_at t n)) (sym i) ∙ sym (taken_at true b.forms t n) ∙ e)

  -- where there is no MoveResult the table is the same
  none_same : (q : ℕ) → takes_none b q ≡ true → state_at u q ≡ state_at t q
  none_same q e = taken_at true b.forms t q ∙ taken_still (has_front true t q) (takes_result (form_at b q)) (state_at t q) (λ x. clash (takes_result (form_at b q)) x (not_true (takes_result (form_at b q)) e))

  -- so it is behind a state
  next_same : (n : ℕ) (a : Kinds) → state_at t n ≡ Some a → state_at u (n + 1) ≡ state_at t (n + 1)
  next_same n a e = taken_at true b.forms t (n + 1)
      ∙ taken_still (has_front true t (n + 1)) (takes_result (form_at b (n + 1))) (state_at t (n + 1)) (λ x. ap (has_front true t) (next_is n) ∙ ap is_some e)

  still : (q : ℕ) (x : Kinds) → state_at u q ≡ state_at t q → arrives p t (q, x) ≡ true → arrives p u (q, x) ≡ true
  still q x e h = ap (state_below p (Some x)) e ∙ h

  -- ---- edges

  onward_still : (n : ℕ) (f : Form) (a x : Kinds) → form_at b n ≡ Some f → state_at t n ≡ Some a → list_all (λ q. arrives p t (q, x)) (onward f n) ≡ true → list_all (λ q. arrives p u (q, x)) (onward f n) ≡ true
  onward_still n f a x i s e = by (gives_result f) refl
    where
      by : (g : Bool) → gives_result f ≡ g → list_all (λ q. arrives p u (q, x)) (onward f n) ≡ true
      by false g = all_from (takes_none b) (λ q. arrives p t (q, x)) (λ q. arrives p u (q, x)) (λ q k h. still q x (none_same q k) h) (onward f n) (places.onward n f i g) e
      by true g = ap (list_all (λ q. arrives p u (q, x))) (only_next f n g)
          ∙ and_both (arrives p u (n + 1, x)) true (still (n + 1) x (next_same n a s) (and_left (arrives p t (n + 1, x)) true (ap (list_all (λ q. arrives p t (q, x))) (sym (only_next f n g)) ∙ e))) refl

  rest_places : (o : Option ℕ) → list_all (λ (h : ℕ × Kind). takes_none b h.0) (catch_all o) ≡ list_all (takes_none b) (listed o)
  rest_places None = refl
  rest_places (Some n) = refl

  region_places : (o : Option NamedRegion) → list_all (takes_none b) (handlers_of o) ≡ true → list_all (λ (h : ℕ × Kind). takes_none b h.0) (catches_in p o) ≡ true
  region_places None e = refl
  region_places (Some r) e = all_append (λ (h : ℕ × Kind). takes_none b h.0) (map (λ h. (h.position, kind_of p h.kind)) r.handlers) (catch_all r.rest)
      (all_map (λ (h : ℕ × Kind). takes_none b h.0) (λ (h : NamedHandler). (h.position, kind_of p h.kind)) r.handlers
      ∙ sym (all_map (takes_none b) (λ (h : NamedHandler). h.position) r.handlers)
      ∙ all_first (takes_none b) (map (λ h. h.position) r.handlers) (listed r.rest) e)
      (rest_places r.rest ∙ all_last (takes_none b) (map (λ h. h.position) r.handlers) (listed r.rest) e)

  caught_places : (n : ℕ) (f : Form) → list_all (takes_none b) (caught b f n) ≡ true → list_all (λ (h : ℕ × Kind). takes_none b h.0) (catches p b n f) ≡ true
  caught_places n f e = by (may_throw f) e
    where
      by : (x : Bool) → list_all (takes_none b) (elim x as (λ x. List ℕ) [ true ↦ handlers_of (region_at b n) | false ↦ [] ]) ≡ true
          → list_all (λ (h : ℕ × Kind). takes_none b h.0) (if x then catches_in p (region_at b n) else []) ≡ true
      by true e = region_places (region_at b n) e
      by false e = refl

  abbrev goes_to : Kinds → ℕ → ℕ × Kinds
  goes_to x q = (q, x)

  abbrev caught_with : Kinds → ℕ × Kind → ℕ × Kinds
  caught_with a h = (h.0, record a { caught = h.1 })

  module _ (n : ℕ) (f : Form) (a : Kinds) (i : form_at b n ≡ Some f) (s : state_at t n ≡ Some a) where
    all_edges : list_all (arrives p t) (edges p c b n f a) ≡ true
    all_edges = tested p c m b t typing n f a i s (λ f a. list_all (arrives p t) (edges p c b n f a))
        (each_at (length b.forms) (λ n. at_state b t (λ f a. list_all (arrives p t) (edges p c b n f a)) n) n (got_short b.forms n f i) typing.edges)

    goes_on : list_all (λ q. arrives p u (q, after p c n f a)) (onward f n) ≡ true
    goes_on = onward_still n f a (after p c n f a) i s (sym (all_map (arrives p t) (goes_to (after p c n f a)) (onward f n))
        ∙ all_first (arrives p t) (map (goes_to (after p c n f a)) (onward f n)) (map (caught_with a) (catches p b n f)) all_edges)

    is_caught : list_all (λ h. arrives p u (caught_with a h)) (catches p b n f) ≡ true
    is_caught = all_from (λ (h : ℕ × Kind). takes_none b h.0) (λ h. arrives p t (caught_with a h)) (λ h. arrives p u (caught_with a h)) (λ h k e. still h.0 (record a { caught = h.1 }) (none_same h.0 k) e)
        (catches p b n f) (caught_places n f (places.caught n f i)) (sym (all_map (arrives p t) (caught_with a) (catches p b n f))
        ∙ all_last (arrives p t) (map (goes_to (after p c n f a)) (onward f n)) (map (caught_with a) (catches p b n f)) all_edges)

    same_catches : (g : Form) → catches p d n g ≡ catches p b n g
    same_catches g = ap (λ rs. if may_throw g then catches_in p (region_at (record d { regions = rs }) n) else []) lowered.regions

    all_arrive : (g : Form) → list_all (λ q. arrives p u (q, after p c n g a)) (onward g n) ≡ true → list_all (λ h. arrives p u (caught_with a h)) (catches p d n g) ≡ true → list_all (arrives p u) (edges p c d n g a) ≡ true
    all_arrive g e h = all_append (arrives p u) (map (goes_to (after p c n g a)) (onward g n)) (map (caught_with a) (catches p d n g))
        (all_map (arrives p u) (goes_to (after p c n g a)) (onward g n) ∙ e) (all_map (arrives p u) (caught_with a) (catches p d n g) ∙ h)

    still_edges : (g : Form) → g ≡ f → list_all (arrives p u) (edges p c d n g a) ≡ true
    still_edges g e = subst (λ g. list_all (arrives p u) (edges p c d n g a) ≡ true) (sym e) (all_arrive f goes_on (ap (list_all (λ h. arrives p u (caught_with a h))) (same_catches f) ∙ is_caught))

    lower_edges : (g : Form) → Lowers p c m n a f g → list_all (arrives p u) (edges p c d n g a) ≡ true
    lower_edges g l = all_arrive g
        (all_of (λ q. arrives p u (q, after p c n g a)) (onward g n) (λ q k. kinds_above p above (after p c n g a) (after p c n f a) (state_at u q) l.below
        (all_in (λ q. arrives p u (q, after p c n f a)) (onward f n) q (l.onward q k) goes_on)))
        (ap (λ x. list_all (λ h. arrives p u (caught_with a h)) (if x then catches_in p (region_at d n) else [])) l.calm)

  -- ---- each position

  abbrev Test : Type 0
  Test = ℕ → Form → Kinds → Bool

  each_state : (test : Test) → ((n : ℕ) (f g : Form) (a : Kinds) → form_at b n ≡ Some f → state_at t n ≡ Some a → (g ≡ f) ⊎ Lowers p c m n a f g → test n g a ≡ true) → each (length d.forms) (λ n. at_state d u (test n) n) ≡ true
  each_state test h = each_all (length d.forms) (λ n. at_state d u (test n) n) at_one
    where
      at_one : (n : ℕ) → n < length d.forms → at_state d u (test n) n ≡ true
      at_one n l = by_form (form_at d n) refl
        where
          old : (f : Form) × (form_at b n ≡ Some f)
          old = get_there b.forms n (subst (λ k. n < k) lowered.long l)

          by_state : (g : Form) → form_at d n ≡ Some g → (o : Option Kinds) → state_at u n ≡ o → elim o as (λ o. Bool) [ Some a ↦ test n g a | None ↦ true ] ≡ true
          by_state g i None e = refl
          by_state g i (Some a) e =
              let w = was_there n old.0 a old.1 e in
              h n old.0 g a old.1 w.0 (lowered.forms n old.0 g a old.1 i w.0 w.1)

          by_form : (o : Option Form) → form_at d n ≡ o → elim o as (λ o. Bool) [ Some g ↦ elim (state_at u n) as (λ o. Bool) [ Some a ↦ test n g a | None ↦ true ] | None ↦ true ] ≡ true
          by_form None i = refl
          by_form (Some g) i = by_state g i (state_at u n) refl

  read_step : (n : ℕ) (f g : Form) (a : Kinds) → form_at b n ≡ Some f → state_at t n ≡ Some a → (g ≡ f) ⊎ Lowers p c m n a f g → is_allowed p c m a g ≡ true
  read_step n f g a i s (inl e) = ap (is_allowed p c m a) e ∙ allowed_at p c m b t typing n f a i s
  read_step n f g a i s (inr l) = l.allowed

  right_step : (n : ℕ) (f g : Form) (a : Kinds) → form_at b n ≡ Some f → state_at t n ≡ Some a → (g ≡ f) ⊎ Lowers p c m n a f g → not (is_wrong p c m a g) ≡ true
  right_step n f g a i s (inl e) = ap (λ g. not (is_wrong p c m a g)) e ∙ not_of_false (is_wrong p c m a f) (right_at p c m b t typing n f a i s)
  right_step n f g a i s (inr l) = not_of_false (is_wrong p c m a g) l.right

  edge_step : (n : ℕ) (f g : Form) (a : Kinds) → form_at b n ≡ Some f → state_at t n ≡ Some a → (g ≡ f) ⊎ Lowers p c m n a f g → list_all (arrives p u) (edges p c d n g a) ≡ true
  edge_step n f g a i s (inl e) = still_edges n f a i s g e
  edge_step n f g a i s (inr l) = lower_edges n f a i s g l

  begins : begun p c m d ≡ begun p c m b
  begins = ap₂ (λ y z. begun p c m (record b { registers = y; ins = z })) lowered.registers lowered.ins

  first_same : state_at u 0 ≡ state_at t 0
  first_same = taken_at true b.forms t 0 ∙ taken_still true (takes_result (form_at b 0)) (state_at t 0) (λ e. refl)

  pub lowered_typing : IsTyping p c m d u
  lowered_typing = record {
    long = taken_long true b.forms t ∙ typing.long ∙ sym lowered.long;
    entry = ap₂ (λ a o. state_below p (Some a) o) begins first_same ∙ typing.entry;
    reads = each_state (λ n f a. is_allowed p c m a f) read_step;
    right = each_state (λ n f a. not (is_wrong p c m a f)) right_step;
    edges = each_state (λ n f a. list_all (arrives p u) (edges p c d n f a)) edge_step;
  }
