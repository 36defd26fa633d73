-- A typed frame at a position: its form, what the typing says there, and where the frame may go.
use Rattle.std.proofs.Common.{◌≡◌, ℕ, zero, suc, ◌<◌, Bool, true, false, true≢false, List, [], ◌∷◌, ◌++◌, Option, Some, None, ◌⊎◌, inl, inr, refl, sym, ap, ◌∙◌, subst, arith, nat_eq}
use Rattle.std.specs.Prelude.{◌&&◌, not, length, map, find, slice_get, slice_index_or, Contains, if◌then◌else◌}
use Rattle.std.proofs.lemmas.Bool.{eqb-true, eq-eqb, cases_lt}
use Rattle.std.specs.List.{list_all}
use Rattle.std.specs.Option.{option_map, option_and_then}
use Rattle.dalvik_defs.specs.Names.{Text, is_class_type}
use Rattle.dalvik_defs.specs.Face.{bodies_of}
use Rattle.dalvik_defs.specs.Outer.{Outer}
use Rattle.dalvik_defs.specs.State.{World, Classes, kind_of, with_thing, next_object, fresh, is_null}
use Rattle.dalvik_defs.specs.Effect.{go}
use Rattle.dalvik_defs.specs.Outcome.{faults}
use Rattle.dalvik_defs.specs.Happens.{Setting}
use Rattle.dalvik_defs.specs.Stack.{lands, handler_in, handler_at, covers}
use Rattle.dalvik_defs.specs.Step.{setting_of}
use Rattle.dalvik_defs.specs.declared.state.Value.{Value}
use Rattle.dalvik_defs.specs.declared.state.Value.TheVariants.{Word}
use Rattle.dalvik_defs.specs.declared.state.Frame.{Frame}
use Rattle.dalvik_defs.specs.declared.forms.Form.{Form}
use Rattle.dalvik_defs.specs.declared.program.NamedHandler.{NamedHandler}
use Rattle.dalvik_defs.specs.declared.program.NamedProgram.{NamedProgram}
use Rattle.dalvik_defs.specs.declared.program.NamedRegion.{NamedRegion}
use Rattle.dalvik_defs.specs.declared.tables.Framework.{Framework}
use Rattle.dalvik_defs.specs.declared.tables.Floats.{Floats}
use Rattle.pass_defs.specs.Bare.{may_throw}
use Rattle.pass_defs.specs.Walks.{form_at, region_at, onward}
use Rattle.pass_defs.specs.Kinds.{Kind, is_below, is_initialised}
use Rattle.pass_defs.specs.Kinds as kind
use Rattle.pass_defs.specs.Registers.{Kinds, all_below, kinds_below, state_below}
use Rattle.pass_defs.specs.Demands.{is_allowed}
use Rattle.pass_defs.specs.Typed.{Table, state_at, each, at_state, arrives, edges, after, catches, catches_in, catch_all, is_wrong}
use Rattle.run_laws.specs.Invariant.{Invariant, Grows}
use Rattle.run_laws.proofs.Invariants.{Landed}
use Rattle.run_laws.proofs.Growing.{grows_with}
use Rattle.run_laws.proofs.Plain.{grown, LeadsPlainly}
use Rattle.run_laws.specs.TypedStates.{IsObject, KindHolds, StateHolds, TypedFrame, TypedWorld, typed_states}
use Rattle.run_laws.proofs.Settled.{IsSettled}
use Rattle.run_laws.proofs.Registers.{and_left, and_right, all_above}
use Rattle.run_laws.proofs.Sorts.{Sorted, OfWord, OfWide, OfReference, OfNone, sorted}
use Rattle.run_laws.proofs.Climbs.{none_some, some_one, found_in_list, found_passes}
use Rattle.run_laws.proofs.Arrays.{true_false, under_fits}
use Rattle.run_laws.proofs.Orders.{ref_held, below_held, below_initialised}
use Rattle.run_laws.proofs.Worlds.{object_there, state_later, typed_with, fresh_typed, new_object}

pub each_at : (bound n : ℕ) (test : ℕ → Bool) → each bound test ≡ true → n < bound → test n ≡ true
each_at zero n test e l = absurd (omega (arith, l))
each_at (suc b) n test e l = by (nat_eq n b) refl (λ k. each_at b n test (and_left (each b test) (test b) e) k)
  where
    by : (x : Bool) → nat_eq n b ≡ x → (n < b → test n ≡ true) → test n ≡ true
    by true i more = subst (λ k. test k ≡ true) (sym (eqb-true n b i)) (and_right (each b test) (test b) e)
    by false i more = more (less n b l (λ j. true≢false (sym (eq-eqb n b j) ∙ i)))
      where
        less : (n b : ℕ) → n < suc b → (n ≡ b → ⊥) → n < b
        less n b l d = elim (cases_lt n b) [ inl k ↦ k | inr g ↦ absurd (d (omega (arith, l, g))) ]

pub all_in : {A : Type 0} (test : A → Bool) (xs : List A) (x : A) → list_all test xs ≡ true → Contains xs x → test x ≡ true
all_in test [] x e h = let l : h.0 < 0 = h.1 in absurd (omega (arith, l))
all_in test (y ∷ ys) x e (zero, l, i) = subst (λ z. test z ≡ true) (i) (and_left (test y) (list_all test ys) e)
all_in test (y ∷ ys) x e (suc n, l, i) = all_in test ys x (and_right (test y) (list_all test ys) e) (n, omega (arith, l), i)

pub into_left : {A : Type 0} (xs ys : List A) (x : A) → Contains xs x → Contains (xs ++ ys) x
into_left [] ys x h = let l : h.0 < 0 = h.1 in absurd (omega (arith, l))
into_left (y ∷ xs) ys x (zero, l, i) = (zero, omega arith, i)
into_left (y ∷ xs) ys x (suc n, l, i) = let h = into_left xs ys x (n, omega (arith, l), i) in (suc h.0, omega (arith, h.1), h.2)

pub into_right : {A : Type 0} (xs ys : List A) (x : A) → Contains ys x → Contains (xs ++ ys) x
into_right [] ys x h = h
into_right (y ∷ xs) ys x h = let k = into_right xs ys x h in (suc k.0, omega (arith, k.1), k.2)

pub into_map : {A B : Type 0} (g : A → B) (xs : List A) (x : A) → Contains xs x → Contains (map g xs) (g x)
into_map g [] x h = let l : h.0 < 0 = h.1 in absurd (omega (arith, l))
into_map g (y ∷ xs) x (zero, l, i) = (zero, omega arith, ap g i)
into_map g (y ∷ xs) x (suc n, l, i) = let h = into_map g xs x (n, omega (arith, l), i) in (suc h.0, omega (arith, h.1), h.2)

pub get_contains : (xs : List Form) (m : ℕ) (x : Form) → slice_get xs m ≡ Some x → Contains xs x
get_contains [] m x e = none_some x e
get_contains (y ∷ xs) zero x e = (0, omega arith, some_one y x e)
get_contains (y ∷ xs) (suc m) x e = let h = get_contains xs m x e in (suc h.0, omega (arith, h.1), h.2)

module _ (p : NamedProgram) (o : Outer) (f : Framework) (floats : Floats) (reg : IsSettled p) where
  abbrev pub setting : Setting
  setting = setting_of p o f floats

  abbrev pub states : Invariant
  states = typed_states p f o

  -- kinds that are above hold too
  pub state_above : (c : Text) (w : World) (a b : Kinds) (g : Frame) → kinds_below p a b ≡ true → StateHolds p f c w a g → StateHolds p f c w b g
  state_above c w a b g e h = let x = and_left (all_below p a.registers b.registers && is_below p a.result b.result && is_below p a.caught b.caught) (is_below p a.receiver b.receiver) e in
      let y = and_left (all_below p a.registers b.registers && is_below p a.result b.result) (is_below p a.caught b.caught) x in record {
        registers = all_above p f c w (below_held p f reg c w) a.registers b.registers g.registers (and_left (all_below p a.registers b.registers) (is_below p a.result b.result) y) h.registers;
        result = below_held p f reg c w a.result b.result g.result (and_right (all_below p a.registers b.registers) (is_below p a.result b.result) y) h.result;
        caught = let l = and_right (all_below p a.registers b.registers && is_below p a.result b.result) (is_below p a.caught b.caught) x in record {
          there = h.caught.there;
          object = λ i. h.caught.object (below_initialised p a.caught b.caught l i);
          held = λ i. below_held p f reg c w a.caught b.caught g.caught l (h.caught.held (below_initialised p a.caught b.caught l i));
        };
      }

  -- the frame's method has the body
  pub own_body : (w : World) (g : Frame) (t : TypedFrame p f w g) → t.in_method.method.body ≡ Some t.in_method.body
  own_body w g t = sym (ap (λ o. option_and_then (λ m. m.body) o) (reg.regular.methods t.in_method.class t.in_method.method t.in_method.class_in t.in_method.method_in)) ∙ (ap (bodies_of p) (sym t.in_method.is_key) ∙ t.in_method.has_body)

  pub record At (w : World) (g : Frame) (t : TypedFrame p f w g) (x : Form) : Type 0 where
    pub has : form_at t.in_method.body g.position ≡ Some x
    pub allowed : is_allowed p t.in_method.class t.in_method.method t.kinds x ≡ true
    pub right : is_wrong p t.in_method.class t.in_method.method t.kinds x ≡ false
    pub edges : list_all (arrives p t.in_method.table) (edges p t.in_method.class t.in_method.body g.position x t.kinds) ≡ true

  -- each typed frame has a form
  pub at_form : (w : World) (g : Frame) (t : TypedFrame p f w g) → (x : Form) × At w g t x
  at_form w g t = by (form_at t.in_method.body g.position) refl
    where
      n : ℕ
      n = g.position

      in_range : (xs : Table) (n : ℕ) (a : Kinds) → slice_index_or xs n None ≡ Some a → n < length xs
      in_range [] n a e = none_some a e
      in_range (x ∷ xs) zero a e = omega arith
      in_range (x ∷ xs) (suc n) a e = let l = in_range xs n a e in omega (arith, l)

      short : (xs : List Form) (n : ℕ) → slice_get xs n ≡ None → n < length xs → ⊥
      short [] n e l = omega (arith, l)
      short (x ∷ xs) zero e l = none_some x (sym e)
      short (x ∷ xs) (suc n) e l = short xs n e (omega (arith, l))

      bound : n < length t.in_method.body.forms
      bound = subst (λ k. n < k) t.in_method.typing.long (in_range t.in_method.table n t.kinds t.state)

      tested : (x : Form) (test : Form → Kinds → Bool) → form_at t.in_method.body n ≡ Some x → at_state t.in_method.body t.in_method.table test n ≡ true → test x t.kinds ≡ true
      tested x test i e = sym (ap (λ o. elim o as (λ o. Bool) [ Some y ↦ elim (state_at t.in_method.table n) as (λ o. Bool) [ Some a ↦ test y a | None ↦ true ] | None ↦ true ]) i
          ∙ ap (λ o. elim o as (λ o. Bool) [ Some a ↦ test x a | None ↦ true ]) t.state) ∙ e

      untrue : (b : Bool) → not b ≡ true → b ≡ false
      untrue true i = absurd (true≢false (sym i))
      untrue false i = refl

      by : (y : Option Form) → form_at t.in_method.body n ≡ y → (x : Form) × At w g t x
      by None i = absurd (short t.in_method.body.forms n i bound)
      by (Some x) i = let c = t.in_method.class in let m = t.in_method.method in let b = t.in_method.body in let tb = t.in_method.table in (
        x,
        record {
          has = i;
          allowed = tested x (λ f a. is_allowed p c m a f) i (each_at (length b.forms) n (at_state b tb (λ f a. is_allowed p c m a f)) t.in_method.typing.reads bound);
          right = untrue (is_wrong p c m t.kinds x) (tested x (λ f a. not (is_wrong p c m a f)) i (each_at (length b.forms) n (at_state b tb (λ f a. not (is_wrong p c m a f))) t.in_method.typing.right bound));
          edges = tested x (λ f a. list_all (arrives p tb) (edges p c b n f a)) i (each_at (length b.forms) n (λ n. at_state b tb (λ f a. list_all (arrives p tb) (edges p c b n f a)) n) t.in_method.typing.edges bound);
        },
      )

  module _ (w : World) (g : Frame) (t : TypedFrame p f w g) (x : Form) (h : At w g t x) where
    abbrev class : Text
    class = t.in_method.class.name

    -- along an edge to its position
    pub arrive : (q : ℕ) (a : Kinds) → Contains (edges p t.in_method.class t.in_method.body g.position x t.kinds) (q, a) → (w1 : World) (g1 : Frame) → g1.method ≡ t.key → g1.position ≡ q → StateHolds p f class w1 a g1 → TypedFrame p f w1 g1
    arrive q a i w1 g1 e l k = by (state_at t.in_method.table q) refl (all_in (arrives p t.in_method.table) (edges p t.in_method.class t.in_method.body g.position x t.kinds) (q, a) h.edges i)
      where
        by : (y : Option Kinds) → state_at t.in_method.table q ≡ y → state_below p (Some a) (state_at t.in_method.table q) ≡ true → TypedFrame p f w1 g1
        by None j m = absurd (true≢false (sym m ∙ ap (state_below p (Some a)) j))
        by (Some b) j m = record { key = t.key; of = e; in_method = t.in_method; kinds = b; state = subst (λ n. state_at t.in_method.table n ≡ Some b) (sym l) j; holds = state_above class w1 a b g1 (sym (ap (state_below p (Some a)) j) ∙ m) k }

    pub go_to : (q : ℕ) → Contains (onward x g.position) q → (w1 : World) (g1 : Frame) → g1.method ≡ t.key → g1.position ≡ q → StateHolds p f class w1 (after p t.in_method.class g.position x t.kinds) g1 → TypedFrame p f w1 g1
    go_to q i = let a = after p t.in_method.class g.position x t.kinds in
        arrive q a (into_left (map (λ q. (q, a)) (onward x g.position)) (map (λ h. (h.0, record t.kinds { caught = h.1 })) (catches p t.in_method.body g.position x)) (q, a) (into_map (λ q. (q, a)) (onward x g.position) q i))

    abbrev Lands : World → Classes → Option Frame → Type 0
    Lands = Landed setting (bodies_of p) (grown setting (bodies_of p) states)

    -- to the handler of what is thrown
    pub landed : (w1 : World) (cs : Classes) → Grows w w1 → (v : Value) → IsObject w1 v → may_throw x ≡ true → Lands w1 cs (lands setting.face (bodies_of p) w1 g v)
    landed w1 cs grow v there throws = subst (λ b. Lands w1 cs (option_map (λ at. record (go g at) { caught = v }) (option_and_then (handler_at above g.position) b))) (sym has_body) (in_region (region_at t.in_method.body g.position) refl)
      where
        above : Text → Bool
        above = setting.face.under (kind_of w1 v)

        has_body : bodies_of p g.method ≡ Some t.in_method.body
        has_body = ap (bodies_of p) t.of ∙ t.in_method.has_body

        carried : (q : ℕ) (k : Kind) → Contains (catches_in p (region_at t.in_method.body g.position)) (q, k) → (is_initialised k ≡ true → KindHolds p f class w1 k v) → TypedFrame p f w1 (record (go g q) { caught = v })
        carried q k i held = arrive q (record t.kinds { caught = k }) (into_right (map (λ q. (q, after p t.in_method.class g.position x t.kinds)) (onward x g.position)) (map (λ h. (h.0, record t.kinds { caught = h.1 })) (catches p t.in_method.body g.position x)) (q, record t.kinds { caught = k })
            (into_map (λ h. (h.0, record t.kinds { caught = h.1 })) (catches p t.in_method.body g.position x) (q, k) (subst (λ b. Contains (if b then catches_in p (region_at t.in_method.body g.position) else []) (q, k)) (sym throws) i)))
            w1 (record (go g q) { caught = v }) t.of refl (let s = state_later p f class w w1 grow t.kinds g t.holds in record { registers = s.registers; result = s.result; caught = record { there = object_there w1 v there; object = λ i. there; held = held } })

        class_held : (u : Text) → above u ≡ true → is_initialised (kind.kind_of p u) ≡ true → KindHolds p f class w1 (kind.kind_of p u) v
        class_held u i e = by (sorted p u)
          where
            no : {A : Type 0} (k : Kind) → kind.kind_of p u ≡ k → is_initialised k ≡ false → A
            no k j l = true_false (sym (ap is_initialised j) ∙ e) l

            by : Sorted p u → KindHolds p f class w1 (kind.kind_of p u) v
            by (OfReference a b d j l) = subst (λ k. KindHolds p f class w1 k v) (sym j) (ref_held p f reg class w1 u v there (under_fits p f reg (kind_of w1 v) u i))
            by (OfWord a b d j l) = no kind.Word j refl
            by (OfWide a b d j l) = no kind.Low j refl
            by (OfNone a b d j l) = no kind.Undefined j refl

        in_region : (y : Option NamedRegion) → region_at t.in_method.body g.position ≡ y → Lands w1 cs (option_map (λ at. record (go g at) { caught = v }) (option_and_then (handler_in above) (find (covers g.position) t.in_method.body.regions)))
        in_region None i = subst (λ r. Lands w1 cs (option_map (λ at. record (go g at) { caught = v }) (option_and_then (handler_in above) r))) (sym i) tt
        in_region (Some r) i = subst (λ r. Lands w1 cs (option_map (λ at. record (go g at) { caught = v }) (option_and_then (handler_in above) r))) (sym i) (by (find (λ h. above h.kind) r.handlers) refl)
          where
            inside : (q : ℕ) (k : Kind) → Contains (catches_in p (Some r)) (q, k) → Contains (catches_in p (region_at t.in_method.body g.position)) (q, k)
            inside q k j = subst (λ r. Contains (catches_in p r) (q, k)) (sym i) j

            rest : (n : Option ℕ) → r.rest ≡ n → Lands w1 cs (option_map (λ at. record (go g at) { caught = v }) n)
            rest None j = tt
            rest (Some q) j = carried q kind.Reference (inside q kind.Reference (into_right (map (λ h. (h.position, kind.kind_of p h.kind)) r.handlers) (catch_all r.rest) (q, kind.Reference) (subst (λ n. Contains (catch_all n) (q, kind.Reference)) (sym j) (0, omega arith, refl)))) (λ i. inr there)

            by : (y : Option NamedHandler) → find (λ h. above h.kind) r.handlers ≡ y → Lands w1 cs (option_map (λ at. record (go g at) { caught = v }) (elim y as (λ y. Option ℕ) [ Some h ↦ Some h.position | None ↦ r.rest ]))
            by None j = rest r.rest refl
            by (Some d) j = let inn = found_in_list (λ h. above h.kind) r.handlers d j in carried d.position (kind.kind_of p d.kind)
                (inside d.position (kind.kind_of p d.kind) (into_left (map (λ h. (h.position, kind.kind_of p h.kind)) r.handlers) (catch_all r.rest) (d.position, kind.kind_of p d.kind) (into_map (λ h. (h.position, kind.kind_of p h.kind)) r.handlers d inn)))
                (class_held d.kind (found_passes (λ h. above h.kind) r.handlers d j))

    -- a new object of a class is thrown
    pub faulted : (cs : Classes) (u : Text) → TypedWorld p f w → is_class_type u ≡ true → may_throw x ≡ true → LeadsPlainly setting (bodies_of p) states w cs g (faults w u)
    faulted cs u tw e throws = (typed_with p f w (fresh u) tw (fresh_typed p f w u e), new_object w (fresh u), landed (with_thing w (fresh u)) cs (grows_with w (fresh u)) (next_object w) (new_object w (fresh u)) throws)

-- what isn't null is an object
pub nonnull : (w : World) (v : Value) → is_null v ≡ false → (v ≡ Word 0) ⊎ IsObject w v → IsObject w v
nonnull w v e (inl i) = absurd (true≢false (sym (ap is_null i) ∙ e))
nonnull w v e (inr h) = h
