-- A typing of a body has a state wherever its code goes on from a position with one, and no form at such a position is wrong.
use Rattle.std.proofs.Common.{◌≡◌, ℕ, Bool, true, false, List, [], ◌∷◌, ◌++◌, length, refl, sym, ap, ◌∙◌, subst}
use Rattle.std.specs.Prelude.{not, Option, Some, None, map, if◌then◌else◌}
use Rattle.std.specs.List.{list_all}
use Rattle.lemmas.proofs.Lists.{got_short, map_append}
use Rattle.dalvik_defs.specs.Face.{bodies_of}
use Rattle.dalvik_defs.specs.declared.names.MethodKey.{MethodKey}
use Rattle.dalvik_defs.specs.declared.forms.Form.{Form}
use Rattle.dalvik_defs.specs.declared.program.NamedRegion.{NamedRegion}
use Rattle.dalvik_defs.specs.declared.program.NamedBody.{NamedBody}
use Rattle.dalvik_defs.specs.declared.program.NamedClass.{NamedClass}
use Rattle.dalvik_defs.specs.declared.program.NamedMethod.{NamedMethod}
use Rattle.dalvik_defs.specs.declared.program.NamedProgram.{NamedProgram}
use Rattle.pass_defs.specs.Bare.{may_throw}
use Rattle.pass_defs.specs.Walks.{form_at, region_at, listed, handlers_of, handlers_at, onward, caught}
use Rattle.pass_defs.specs.Kinds.{kind_of}
use Rattle.pass_defs.specs.Registers.{Kinds, state_below}
use Rattle.pass_defs.specs.Typed.{Table, state_at, at_state, arrives, after, catch_all, catches_in, catches, edges, is_wrong, begun, IsTyping, IsTyped}
use Rattle.removal_law.specs.Left.{In, here, there}
use Rattle.removal_law.proofs.Lists.{clash, all_in, contained}
use Rattle.removal_law.proofs.CallsLeft.{body_in}
use Rattle.removal_law.proofs.TypedCode.{each_at}

-- A body of a program has a typing with a state at a position.
pub record HasState (p : NamedProgram) (b : NamedBody) (n : ℕ) : Type 0 where
  pub class : NamedClass
  pub method : NamedMethod
  pub table : Table
  pub typing : IsTyping p class method b table
  pub kinds : Kinds
  pub state : state_at table n ≡ Some kinds

-- ---- pairs by their first parts

abbrev firsts : {A : Type 0} → List (ℕ × A) → List ℕ
firsts xs = map (λ x. x.0) xs

paired : {A : Type 0} (u : ℕ) (xs : List (ℕ × A)) → In u (firsts xs) → (x : ℕ × A) × (In x xs × (x.0 ≡ u))
paired u [] i = elim i [ ]
paired {A} u (x ∷ xs) i = split u x i (paired u xs)
  where
    split : (u : ℕ) (x : ℕ × A) → In u (x.0 ∷ firsts xs) → (In u (firsts xs) → (y : ℕ × A) × (In y xs × (y.0 ≡ u))) → (y : ℕ × A) × (In y (x ∷ xs) × (y.0 ≡ u))
    split u x (here ys) h = (x, (here xs, refl))
    split u x (there y ys j) h = let r = h j in (r.0, (there x xs r.1.0, r.1.1))

firsts_from : {A B : Type 0} (g : A → ℕ) (h : A → B) (xs : List A) → firsts (map (λ x. (g x, h x)) xs) ≡ map g xs
firsts_from g h [] = refl
firsts_from g h (x ∷ xs) = ap (λ ys. g x ∷ ys) (firsts_from g h xs)

all_same : (xs : List ℕ) → map (λ x. x) xs ≡ xs
all_same [] = refl
all_same (x ∷ xs) = ap (λ ys. x ∷ ys) (all_same xs)

-- ---- the edges of a form go to where it goes on

module _ (p : NamedProgram) where
  rest_firsts : (o : Option ℕ) → firsts (catch_all o) ≡ listed o
  rest_firsts None = refl
  rest_firsts (Some n) = refl

  region_firsts : (o : Option NamedRegion) → firsts (catches_in p o) ≡ handlers_of o
  region_firsts None = refl
  region_firsts (Some r) =
      map_append (λ x. x.0) (map (λ h. (h.position, kind_of p h.kind)) r.handlers) (catch_all r.rest)
      ∙ ap (λ xs. xs ++ firsts (catch_all r.rest)) (firsts_from (λ h. h.position) (λ h. kind_of p h.kind) r.handlers)
      ∙ ap (λ xs. map (λ h. h.position) r.handlers ++ xs) (rest_firsts r.rest)

  catch_firsts : (b : NamedBody) (n : ℕ) (f : Form) → firsts (catches p b n f) ≡ caught b f n
  catch_firsts b n f = by (may_throw f)
    where
      by : (x : Bool) → firsts (if x then catches_in p (region_at b n) else []) ≡ (elim x as (λ x. List ℕ) [ true ↦ handlers_at b n | false ↦ [] ])
      by true = region_firsts (region_at b n)
      by false = refl

  edge_firsts : (c : NamedClass) (b : NamedBody) (n : ℕ) (f : Form) (a : Kinds) → firsts (edges p c b n f a) ≡ onward f n ++ caught b f n
  edge_firsts c b n f a =
      map_append (λ x. x.0) (map (λ q. (q, after p c n f a)) (onward f n)) (map (λ h. (h.0, record a { caught = h.1 })) (catches p b n f))
      ∙ ap (λ xs. xs ++ firsts (map (λ h. (h.0, record a { caught = h.1 })) (catches p b n f))) (firsts_from (λ q. q) (λ q. after p c n f a) (onward f n) ∙ all_same (onward f n))
      ∙ ap (λ xs. onward f n ++ xs) (firsts_from (λ h. h.0) (λ h. record a { caught = h.1 }) (catches p b n f) ∙ catch_firsts b n f)

-- ---- states

module _ (p : NamedProgram) (c : NamedClass) (m : NamedMethod) (b : NamedBody) (t : Table) (typing : IsTyping p c m b t) where
  state_above : (a : Kinds) (n : ℕ) → state_below p (Some a) (state_at t n) ≡ true → HasState p b n
  state_above a n e = by (state_at t n) refl e
    where
      by : (s : Option Kinds) → state_at t n ≡ s → state_below p (Some a) s ≡ true → HasState p b n
      by (Some d) i e = record { class = c; method = m; table = t; typing = typing; kinds = d; state = i }
      by None i e = clash false e refl

  -- a test of the positions that have a state
  holds_at : (test : ℕ → Form → Kinds → Bool) (n : ℕ) (f : Form) (a : Kinds) → form_at b n ≡ Some f → state_at t n ≡ Some a → at_state b t (test n) n ≡ true → test n f a ≡ true
  holds_at test n f a i j e =
      sym (ap (λ o. elim o as (λ o. Bool) [ Some f ↦ elim (state_at t n) as (λ s. Bool) [ Some a ↦ test n f a | None ↦ true ] | None ↦ true ]) i
      ∙ ap (λ s. elim s as (λ s. Bool) [ Some a ↦ test n f a | None ↦ true ]) j) ∙ e

  state_first : HasState p b 0
  state_first = state_above (begun p c m b) 0 typing.entry

  state_behind : (n u : ℕ) (f : Form) (a : Kinds) → form_at b n ≡ Some f → state_at t n ≡ Some a → In u (onward f n ++ caught b f n) → HasState p b u
  state_behind n u f a i j k =
      let d = paired u (edges p c b n f a) (subst (In u) (sym (edge_firsts p c b n f a)) k) in
      let e = each_at (length b.forms) (λ n. at_state b t (λ f a. list_all (arrives p t) (edges p c b n f a)) n) typing.edges n (got_short b.forms n f i) in
      subst (HasState p b) d.1.1 (state_above d.0.1 d.0.0 (all_in (arrives p t) (edges p c b n f a) (holds_at (λ n f a. list_all (arrives p t) (edges p c b n f a)) n f a i j e) d.0 d.1.0))

  right_at : (n : ℕ) (f : Form) (a : Kinds) → form_at b n ≡ Some f → state_at t n ≡ Some a → not (is_wrong p c m a f) ≡ true
  right_at n f a i j = holds_at (λ n f a. not (is_wrong p c m a f)) n f a i j (each_at (length b.forms) (at_state b t (λ f a. not (is_wrong p c m a f))) typing.right n (got_short b.forms n f i))

-- a body of a typed program has a state at its entry
pub entry_state : (p : NamedProgram) (k : MethodKey) (b : NamedBody) → IsTyped p → bodies_of p k ≡ Some b → HasState p b 0
entry_state p k b typed e =
    let d = body_in p k b e in
    let h = typed.bodies d.class d.method b (contained d.class p.classes d.class_in) (contained d.method d.class.methods d.method_in) d.body in
    state_first p d.class d.method b h.0 h.1

-- and wherever a form goes on, or leaves to a handler
pub next_state : (p : NamedProgram) (b : NamedBody) (n u : ℕ) (f : Form) → HasState p b n → form_at b n ≡ Some f → In u (onward f n ++ caught b f n) → HasState p b u
next_state p b n u f h i j = state_behind p h.class h.method b h.table h.typing n u f h.kinds i h.state j

-- the form there is not wrong
pub right_state : (p : NamedProgram) (b : NamedBody) (n : ℕ) (f : Form) (h : HasState p b n) → form_at b n ≡ Some f → not (is_wrong p h.class h.method h.kinds f) ≡ true
right_state p b n f h i = right_at p h.class h.method b h.table h.typing n f h.kinds i h.state
