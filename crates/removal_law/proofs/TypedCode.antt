-- In a typed program, new arrays are of array types wherever a walk comes.
use Rattle.std.proofs.Common.{◌≡◌, ℕ, zero, suc, ◌<◌, Bool, true, false, List, [], ◌∷◌, ◌++◌, length, refl, sym, ap, ◌∙◌, subst, arith, inl, inr}
use Rattle.std.specs.Prelude.{◌&&◌, ◌||◌, ◌⊎◌, not, Option, Some, None, map, slice_get, slice_index_or, if◌then◌else◌, codes}
use Rattle.std.specs.List.{list_all}
use Rattle.lemmas.proofs.Lists.{got_short}
use Rattle.dalvik_defs.specs.Names.{Text, text_eq, is_array, is_class_type, is_reference, item_of}
use Rattle.dalvik_defs.specs.Flags.{is_interface, is_abstract}
use Rattle.dalvik_defs.specs.Under.{class_named, defines}
use Rattle.dalvik_defs.specs.Face.{bodies_of}
use Rattle.dalvik_defs.specs.declared.names.MethodKey.{MethodKey}
use Rattle.dalvik_defs.specs.declared.forms.Form.{Form}
use Rattle.dalvik_defs.specs.declared.forms.Form.TheVariants as form
use Rattle.dalvik_defs.specs.declared.program.NamedHandler.{NamedHandler}
use Rattle.dalvik_defs.specs.declared.program.NamedRegion.{NamedRegion}
use Rattle.dalvik_defs.specs.declared.program.NamedBody.{NamedBody}
use Rattle.dalvik_defs.specs.declared.program.NamedClass.{NamedClass}
use Rattle.dalvik_defs.specs.declared.program.NamedMethod.{NamedMethod}
use Rattle.dalvik_defs.specs.declared.program.NamedProgram.{NamedProgram}
use Rattle.pass_defs.specs.Bare.{may_throw}
use Rattle.pass_defs.specs.Walks.{form_at, region_at, listed, handlers_of, handlers_at, onward, caught, successors, Walk, Stays, Goes, IsReached}
use Rattle.pass_defs.specs.Kinds.{Kind, Reference, kind_of}
use Rattle.pass_defs.specs.Registers.{Kinds, state_below}
use Rattle.pass_defs.specs.Live.{is_concrete}
use Rattle.pass_defs.specs.Typed.{Table, state_at, each, at_state, arrives, after, catch_all, catches_in, catches, edges, is_wrong, wrong_instance, wrong_filled, begun, IsTyping, IsTyped}
use Rattle.removal_law.specs.Left.{In, here, there}
use Rattle.removal_law.specs.Reach.{TellsApart, TellsProtos, IsSoundCode}
use Rattle.removal_law.proofs.Lists.{clash, and_left, and_behind, all_in, in_front, in_back, in_either, in_map, contained}
use Rattle.removal_law.proofs.CallsLeft.{body_in}

-- what stands at a place of a list stands in it
pub from_contained : {A : Type 0} (xs : List A) (x : A) (k : ℕ) → k < length xs → slice_index_or xs k x ≡ x → In x xs
from_contained [] x k lt e = absurd (omega (arith, lt))
from_contained (y ∷ xs) x zero lt e = subst (λ z. In z (y ∷ xs)) e (here xs)
from_contained (y ∷ xs) x (suc k) lt e = there y xs (from_contained xs x k (omega (arith, lt)) e)

-- a place at which there is something
-- a test of each number below a bound
pub each_at : (n : ℕ) (test : ℕ → Bool) → each n test ≡ true → (k : ℕ) → k < n → test k ≡ true
each_at zero test e k lt = absurd (omega (arith, lt))
each_at (suc n) test e k lt = by (less_or_same k n lt) (each_at n test (and_left (each n test) (test n) e) k)
  where
    less_or_same : (k n : ℕ) → k < suc n → (k < n) ⊎ (n ≡ k)
    less_or_same zero zero lt = inr refl
    less_or_same zero (suc n) lt = inl (omega arith)
    less_or_same (suc k) zero lt = absurd (omega (arith, lt))
    less_or_same (suc k) (suc n) lt = up (less_or_same k n (omega (arith, lt)))
      where
        up : (k < n) ⊎ (n ≡ k) → (suc k < suc n) ⊎ (suc n ≡ suc k)
        up (inl h) = inl (omega (arith, h))
        up (inr h) = inr (ap suc h)

    by : (k < n) ⊎ (n ≡ k) → (k < n → test k ≡ true) → test k ≡ true
    by (inl h) ih = ih h
    by (inr h) ih = subst (λ z. test z ≡ true) h (and_behind (each n test) (test n) e)

module _ (p : NamedProgram) (c : NamedClass) (m : NamedMethod) (b : NamedBody) (t : Table) (typing : IsTyping p c m b t) where
  abbrev HasState : ℕ → Type 0
  HasState n = (a : Kinds) × (state_at t n ≡ Some a)

  has_above : (a : Kinds) (n : ℕ) (s : Option Kinds) → state_at t n ≡ s → state_below p (Some a) s ≡ true → HasState n
  has_above a n (Some d) i e = (d, i)
  has_above a n None i e = clash false e refl

  -- each edge of a position with a state leads to one
  edge_state : (n : ℕ) (f : Form) (a : Kinds) → form_at b n ≡ Some f → state_at t n ≡ Some a → (e : ℕ × Kinds) → In e (edges p c b n f a) → HasState e.0
  edge_state n f a i j e k = has_above e.1 e.0 (state_at t e.0) refl (all_in (arrives p t) (edges p c b n f a)
      (sym (ap (λ o. elim o as (λ o. Bool) [ Some f ↦ elim (state_at t n) as (λ s. Bool) [ Some a ↦ list_all (arrives p t) (edges p c b n f a) | None ↦ true ] | None ↦ true ]) i
      ∙ ap (λ s. elim s as (λ s. Bool) [ Some a ↦ list_all (arrives p t) (edges p c b n f a) | None ↦ true ]) j)
      ∙ each_at (length b.forms) (λ n. at_state b t (λ f a. list_all (arrives p t) (edges p c b n f a)) n) typing.edges n (got_short b.forms n f i)) e k)

  onward_edge : (n u : ℕ) (f : Form) (a : Kinds) → In u (onward f n) → In {A = ℕ × Kinds} (u, after p c n f a) (edges p c b n f a)
  onward_edge n u f a i = in_front {A = ℕ × Kinds} (u, after p c n f a) (map (λ q. (q, after p c n f a)) (onward f n)) (map (λ h. (h.0, record a { caught = h.1 })) (catches p b n f)) (in_map (λ q. (q, after p c n f a)) u (onward f n) i)

  -- a handler, with the kind of what it catches
  listed_in : (u : ℕ) (o : Option ℕ) → In u (listed o) → In {A = ℕ × Kind} (u, Reference) (catch_all o)
  listed_in u None i = elim i [ ]
  listed_in u (Some v) i = only u v i
    where
      only : (u v : ℕ) → In u (v ∷ []) → In {A = ℕ × Kind} (u, Reference) ((v, Reference) ∷ [])
      only u v (here ys) = here []
      only u v (there y ys j) = elim j [ ]

  typed_in : (u : ℕ) (hs : List NamedHandler) → In u (map (λ h. h.position) hs) → (k : Kind) × In {A = ℕ × Kind} (u, k) (map (λ h. (h.position, kind_of p h.kind)) hs)
  typed_in u [] i = elim i [ ]
  typed_in u (h ∷ hs) i = split u h i (typed_in u hs)
    where
      split : (u : ℕ) (h : NamedHandler) → In u (h.position ∷ map (λ h. h.position) hs) → (In u (map (λ h. h.position) hs) → (k : Kind) × In {A = ℕ × Kind} (u, k) (map (λ h. (h.position, kind_of p h.kind)) hs))
          → (k : Kind) × In {A = ℕ × Kind} (u, k) ((h.position, kind_of p h.kind) ∷ map (λ h. (h.position, kind_of p h.kind)) hs)
      split u h (here ys) ih = (kind_of p h.kind, here (map (λ h. (h.position, kind_of p h.kind)) hs))
      split u h (there y ys j) ih = let r = ih j in (r.0, there (h.position, kind_of p h.kind) (map (λ h. (h.position, kind_of p h.kind)) hs) r.1)

  region_in : (u : ℕ) (o : Option NamedRegion) → In u (handlers_of o) → (k : Kind) × In {A = ℕ × Kind} (u, k) (catches_in p o)
  region_in u None i = elim i [ ]
  region_in u (Some r) i = either (in_either u (map (λ h. h.position) r.handlers) (listed r.rest) i)
    where
      either : In u (map (λ h. h.position) r.handlers) ⊎ In u (listed r.rest) → (k : Kind) × In {A = ℕ × Kind} (u, k) (catches_in p (Some r))
      either (inl j) = let h = typed_in u r.handlers j in (h.0, in_front {A = ℕ × Kind} (u, h.0) (map (λ h. (h.position, kind_of p h.kind)) r.handlers) (catch_all r.rest) h.1)
      either (inr j) = (Reference, in_back {A = ℕ × Kind} (u, Reference) (map (λ h. (h.position, kind_of p h.kind)) r.handlers) (catch_all r.rest) (listed_in u r.rest j))

  caught_edge : (n u : ℕ) (f : Form) (a : Kinds) → In u (caught b f n) → (e : ℕ × Kinds) × (In e (edges p c b n f a) × (e.0 ≡ u))
  caught_edge n u f a i = by (may_throw f) refl i
    where
      at : may_throw f ≡ true → (k : Kind) × In {A = ℕ × Kind} (u, k) (catches_in p (region_at b n)) → (e : ℕ × Kinds) × (In e (edges p c b n f a) × (e.0 ≡ u))
      at y h = (
        (u, record a { caught = h.0 }),
        (
          in_back {A = ℕ × Kinds} (u, record a { caught = h.0 }) (map (λ q. (q, after p c n f a)) (onward f n)) (map (λ h. (h.0, record a { caught = h.1 })) (catches p b n f))
              (in_map {A = ℕ × Kind} {B = ℕ × Kinds} (λ h. (h.0, record a { caught = h.1 })) (u, h.0) (catches p b n f) (subst (λ x. In {A = ℕ × Kind} (u, h.0) (if x then catches_in p (region_at b n) else [])) (sym y) h.1)),
          refl,
        ),
      )

      by : (x : Bool) → may_throw f ≡ x → In u (elim x as (λ x. List ℕ) [ true ↦ handlers_at b n | false ↦ [] ]) → (e : ℕ × Kinds) × (In e (edges p c b n f a) × (e.0 ≡ u))
      by true y j = at y (region_in u (region_at b n) j)
      by false y j = elim j [ ]

  step_state : (n u : ℕ) → HasState n → In u (successors b n) → HasState u
  step_state n u s i = by (form_at b n) refl i
    where
      form_case : (f : Form) → form_at b n ≡ Some f → In u (onward f n) ⊎ In u (caught b f n) → HasState u
      form_case f e (inl j) = edge_state n f s.0 e s.1 (u, after p c n f s.0) (onward_edge n u f s.0 j)
      form_case f e (inr j) = let d = caught_edge n u f s.0 j in subst HasState d.1.1 (edge_state n f s.0 e s.1 d.0 d.1.0)

      by : (o : Option Form) → form_at b n ≡ o → In u (elim o as (λ o. List ℕ) [ Some f ↦ onward f n ++ caught b f n | None ↦ [] ]) → HasState u
      by None e j = elim j [ ]
      by (Some f) e j = form_case f e (in_either u (onward f n) (caught b f n) j)

  walk_state : (i n : ℕ) → HasState i → Walk (successors b) i n → HasState n
  walk_state i n s (Stays k) = s
  walk_state i n s (Goes k j l d w) = walk_state j n (step_state k j s (from_contained (successors b k) j d.0 d.1 d.2)) w

  reached_state : (n : ℕ) → IsReached b n → HasState n
  reached_state n w = walk_state 0 n (has_above (begun p c m b) 0 (state_at t 0) refl typing.entry) w

  -- no position that a walk comes to is wrong
  right_there : (n : ℕ) (f : Form) → IsReached b n → form_at b n ≡ Some f → (a : Kinds) × (not (is_wrong p c m a f) ≡ true)
  right_there n f w i = let s = reached_state n w in (
    s.0,
    sym (ap (λ o. elim o as (λ o. Bool) [ Some f ↦ elim (state_at t n) as (λ s. Bool) [ Some a ↦ not (is_wrong p c m a f) | None ↦ true ] | None ↦ true ]) i
        ∙ ap (λ s. elim s as (λ s. Bool) [ Some a ↦ not (is_wrong p c m a f) | None ↦ true ]) s.1)
        ∙ each_at (length b.forms) (at_state b t (λ f a. not (is_wrong p c m a f))) typing.right n (got_short b.forms n f i),
  )

pub not_not : (b : Bool) → not (not b) ≡ true → b ≡ true
not_not true e = refl
not_not false e = e

pub typed_code : (p : NamedProgram) → IsTyped p → TellsApart p → TellsProtos p → IsSoundCode p
typed_code p typed apart protos = record {
  arrays = λ k b n to size t e w i. let d = right_at k b n (form.NewArray to size t) e w i in not_not (is_array t) d.1.1.1;
  filled = λ k b n t args e w i. let d = right_at k b n (form.FilledNewArray t args) e w i in filled_array t d.1.1.1;
  objects = λ k b n to t e w i d. let r = right_at k b n (form.NewInstance to t) e w i in concrete t r.1.1.1 d;
  methods = apart;
  protos = protos;
}
  where
    right_at : (k : MethodKey) (b : NamedBody) (n : ℕ) (f : Form) → bodies_of p k ≡ Some b → IsReached b n → form_at b n ≡ Some f
        → (c : NamedClass) × ((m : NamedMethod) × ((a : Kinds) × (not (is_wrong p c m a f) ≡ true)))
    right_at k b n f e w i =
        let d = body_in p k b e in
        let h = typed.bodies d.class d.method b (contained d.class p.classes d.class_in) (contained d.method d.class.methods d.method_in) d.body in
        (d.class, (d.method, right_there p d.class d.method b h.0 h.1 n f w i))

    can_be : (a b d : Bool) → not (not a || (b || d)) ≡ true → (not d && not b) ≡ true
    can_be true false false e = refl
    can_be true true d e = clash false e refl
    can_be true false true e = clash false e refl
    can_be false b d e = clash false e refl

    concrete : (t : Text) → not (wrong_instance p t) ≡ true → defines p t ≡ true → is_concrete p t ≡ true
    concrete t e d = by (class_named p t) e d
      where
        by : (x : Option NamedClass) → not (not (is_class_type t) || elim x as (λ x. Bool) [ Some c ↦ is_abstract c.flags || is_interface c.flags | None ↦ false ]) ≡ true
            → elim x as (λ x. Bool) [ Some c ↦ true | None ↦ false ] ≡ true → elim x as (λ x. Bool) [ Some c ↦ not (is_interface c.flags) && not (is_abstract c.flags) | None ↦ false ] ≡ true
        by None e d = clash false d refl
        by (Some c) e d = can_be (is_class_type t) (is_abstract c.flags) (is_interface c.flags) e

    filled_array : (t : Text) → not (wrong_filled t) ≡ true → is_array t ≡ true
    filled_array t e = by (is_array t) (text_eq (item_of t) (codes "I") || is_reference (item_of t)) e
      where
        by : (b d : Bool) → not (not b || not d) ≡ true → b ≡ true
        by true d i = refl
        by false d i = clash false i refl
