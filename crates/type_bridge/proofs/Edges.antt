-- The edges from a position by names, and what holds of each where something holds of each by numbers.
use Rattle.std.proofs.Common.{◌≡◌, ℕ, zero, suc, ◌+◌, ◌<◌, Bool, true, false, List, [], ◌∷◌, ◌++◌, map, length, Option, Some, None, refl, sym, ap, ◌∙◌, subst, arith}
use Rattle.std.specs.Prelude.{◌&&◌, slice_get, find, cond, All, option_and_then, if◌then◌else◌}
use Rattle.std.specs.List.{list_all}
use Rattle.std.specs.Option.{option_map}
use Rattle.lemmas.proofs.Lists.{all_append, map_append}
use Rattle.class_defs.proofs.Positions.{both}
use Rattle.class_defs.proofs.WellFormed.{and_left, and_right}
use Rattle.insn_set.specs.Flow.{throws, goes_on, targets_of}
use Rattle.insn_set.specs.declared.form.Insn.{Insn}
use Rattle.insn_set.specs.declared.form.Insn.TheVariants as insn
use Rattle.program_model.specs.BodyRules.{may_enter}
use Rattle.program_model.specs.RegionRules.{may_begin, handler_fits, rest_fits, region_fits, catches as has_handler}
use Rattle.program_model.specs.Texts.{has_type}
use Rattle.program_model.specs.declared.body.Body.{Body}
use Rattle.program_model.specs.declared.body.Handler.{Handler}
use Rattle.program_model.specs.declared.body.Region.{Region}
use Rattle.program_model.specs.declared.program.Class.{Class}
use Rattle.program_model.specs.declared.program.Method.{Method}
use Rattle.program_model.specs.declared.program.Program.{Program}
use Rattle.dalvik_defs.specs.Naming.{form_of, handler_of, region_of, body_of, named}
use Rattle.dalvik_defs.specs.declared.program.NamedHandler.{NamedHandler}
use Rattle.pass_defs.specs.Bare.{may_throw, continues, targets}
use Rattle.pass_defs.specs.Kinds as name
use Rattle.pass_defs.specs.Registers as by_name
use Rattle.pass_defs.specs.Typed as typed
use Rattle.pass_defs.specs.Walks as walks
use Rattle.verify.specs.declared.kinds.Kind as number
use Rattle.verify.specs.declared.kinds.Kind.TheVariants as kind
use Rattle.verify.specs.declared.setting.Setting.{Setting}
use Rattle.verify.specs.declared.tables.Tables.{Tables}
use Rattle.verify.specs.Types.{kind_of}
use Rattle.verify.specs.Typings.{next_if, onward, covers, first_covering, place_covering, catch_rest, catches_in, region_at, catches}
use Rattle.type_bridge.specs.Views.{kind_named}
use Rattle.type_bridge.proofs.Bodies.{IsCode, entered, handled, next_there}
use Rattle.type_bridge.proofs.Grounds.{IsSet}
use Rattle.type_bridge.proofs.Texts.{kind_is}

-- ---- forms without their names

pub goes_same : (p : Program) (x : Insn) → continues (form_of p x) ≡ goes_on x
goes_same p insn.ReturnVoid = refl
goes_same p x = refl

pub targets_same : (p : Program) (x : Insn) → targets (form_of p x) ≡ targets_of x
targets_same p (insn.Goto target) = refl
targets_same p x = refl

pub throws_same : (p : Program) (x : Insn) → may_throw (form_of p x) ≡ throws x
throws_same p insn.Nop = refl
throws_same p x = refl

-- ---- lists

-- what holds of each element
abbrev Each : {A : Type 0} → (A → Type 0) → List A → Type 0
Each P [] = Unit {0}
Each P (x ∷ xs) = P x × Each P xs

each_of : {A : Type 0} (P : A → Type 0) (xs : List A) → All P xs → Each P xs
each_of P [] h = tt
each_of P (x ∷ xs) h = (h 0 x (omega arith), each_of P xs (λ k d l. h (suc k) d (omega (arith, l))))

each_first : {A : Type 0} (P : A → Type 0) (xs ys : List A) → Each P (xs ++ ys) → Each P xs
each_first P [] ys h = tt
each_first P (x ∷ xs) ys h = (h.0, each_first P xs ys h.1)

each_last : {A : Type 0} (P : A → Type 0) (xs ys : List A) → Each P (xs ++ ys) → Each P ys
each_last P [] ys h = h
each_last P (x ∷ xs) ys h = each_last P xs ys h.1

each_map : {A B : Type 0} (P : B → Type 0) (f : A → B) (xs : List A) → Each P (map f xs) → Each (λ x. P (f x)) xs
each_map P f [] h = tt
each_map P f (x ∷ xs) h = (h.0, each_map P f xs h.1)

-- ---- regions

pub regions_behind : (n : ℕ) (pre rs : List Region) (k : ℕ) → length pre ≡ k → option_and_then (slice_get (pre ++ rs)) (first_covering n k rs) ≡ find (covers n) rs
regions_behind n pre [] k e = refl
regions_behind n pre (r ∷ rs) k e = by (covers n r) (regions_behind n (pre ++ r ∷ []) rs (k + 1) (longer pre k e))
  where
    here : (pre : List Region) (k : ℕ) → length pre ≡ k → slice_get (pre ++ r ∷ rs) k ≡ Some r
    here [] zero e = refl
    here [] (suc k) e = absurd (omega (arith, e))
    here (y ∷ pre) zero e = absurd (omega (arith, e))
    here (y ∷ pre) (suc k) e = here pre k (omega (arith, e))

    longer : (pre : List Region) (k : ℕ) → length pre ≡ k → length (pre ++ r ∷ []) ≡ k + 1
    longer [] k e = omega (arith, e)
    longer (y ∷ pre) zero e = absurd (omega (arith, e))
    longer (y ∷ pre) (suc k) e = let q = longer pre k (omega (arith, e)) in omega (arith, q)

    joined : (pre : List Region) → (pre ++ r ∷ []) ++ rs ≡ pre ++ r ∷ rs
    joined [] = refl
    joined (y ∷ pre) = ap (λ l. y ∷ l) (joined pre)

    by : (b : Bool) → option_and_then (slice_get ((pre ++ r ∷ []) ++ rs)) (first_covering n (k + 1) rs) ≡ find (covers n) rs → option_and_then (slice_get (pre ++ r ∷ rs)) (if b then Some k else first_covering n (k + 1) rs) ≡ cond b (Some r) (find (covers n) rs)
    by true more = here pre k e
    by false more = ap (λ l. option_and_then (slice_get l) (first_covering n (k + 1) rs)) (sym (joined pre)) ∙ more

pub region_found : (p : Program) (n : ℕ) (rs : List Region) → find (walks.is_covered n) (map (region_of p) rs) ≡ option_map (region_of p) (find (covers n) rs)
region_found p n [] = refl
region_found p n (r ∷ rs) = by (covers n r) (region_found p n rs)
  where
    by : (b : Bool) → find (walks.is_covered n) (map (region_of p) rs) ≡ option_map (region_of p) (find (covers n) rs) → cond b (Some (region_of p r)) (find (walks.is_covered n) (map (region_of p) rs)) ≡ option_map (region_of p) (cond b (Some r) (find (covers n) rs))
    by true e = refl
    by false e = e

found_fits : (f : Region → Bool) (n : ℕ) (rs : List Region) (r : Region) → list_all f rs ≡ true → find (covers n) rs ≡ Some r → f r ≡ true
found_fits f n [] r h e = absurd (cc)
found_fits f n (q ∷ rs) r h e = by (covers n q) e (found_fits f n rs r (and_right (f q) (list_all f rs) h))
  where
    by : (b : Bool) → cond b (Some q) (find (covers n) rs) ≡ Some r → (find (covers n) rs ≡ Some r → f r ≡ true) → f r ≡ true
    by true e more = let s : q ≡ r = cc in ap f (sym s) ∙ and_left (f q) (list_all f rs) h
    by false e more = more e

-- ---- edges

module _ (s : Setting) (c : Class) (m : Method) (i : IsSet s c m) (b : Body) (n : ℕ) (y : Insn) (before left : by_name.Kinds) (test : ℕ × by_name.Kinds → Bool) where
  abbrev p : Program
  p = s.program.now

  abbrev t : Tables
  t = s.tables.now

  abbrev gone : ℕ → ℕ × by_name.Kinds
  gone q = (q, left)

  abbrev caught_as : name.Kind → by_name.Kinds
  caught_as k = record before { caught = k }

  abbrev caught_to : ℕ × name.Kind → ℕ × by_name.Kinds
  caught_to z = (z.0, record before { caught = z.1 })

  -- the edges by name, with what they carry onward and from before the form
  abbrev pub sent : List (ℕ × by_name.Kinds)
  sent = map gone (walks.onward (form_of p y) n) ++ map caught_to (typed.catches (named p) (body_of p b) n (form_of p y))

  module _ (code : IsCode p m b) (is : slice_get b.insns n ≡ Some y) (P : ℕ → Type 0) (Q : ℕ × number.Kind → Type 0)
      (goes : (q : ℕ) → q < length b.insns → P q → test (q, left) ≡ true) (caught_one : (q : ℕ) (k : number.Kind) → q < length b.insns → Q (q, k) → test (q, caught_as (kind_named p k)) ≡ true) where
    branches : (qs : List ℕ) → list_all (λ q. may_enter (slice_get b.insns q)) qs ≡ true → Each P qs → list_all test (map (λ q. (q, left)) qs) ≡ true
    branches [] f e = refl
    branches (q ∷ qs) f e = both _ _ (goes q (entered b.insns q (and_left (may_enter (slice_get b.insns q)) _ f)) e.0) (branches qs (and_right (may_enter (slice_get b.insns q)) _ f) e.1)

    next : (g : Bool) → goes_on y ≡ g → Each P (next_if g (n + 1)) → list_all test (map (λ q. (q, left)) (walks.next_position g n)) ≡ true
    next true g e = both _ _ (goes (n + 1) (next_there p m b code n y is g) e.0) refl
    next false g e = refl

    onward_all : All P (onward y n) → list_all test (map (λ q. (q, left)) (walks.onward (form_of p y) n)) ≡ true
    onward_all ws =
        let e = each_of P (onward y n) ws in
        ap (λ l. list_all test l) (map_append (λ q. (q, left)) (walks.next_position (continues (form_of p y)) n) (targets (form_of p y)))
        ∙ ap (λ g. list_all test (map (λ q. (q, left)) (walks.next_position g n) ++ map (λ q. (q, left)) (targets (form_of p y)))) (goes_same p y)
        ∙ ap (λ l. list_all test (map (λ q. (q, left)) (walks.next_position (goes_on y) n) ++ map (λ q. (q, left)) l)) (targets_same p y)
        ∙ all_append _ (map (λ q. (q, left)) (walks.next_position (goes_on y) n)) (map (λ q. (q, left)) (targets_of y))
        (next (goes_on y) refl (each_last P (targets_of y) (next_if (goes_on y) (n + 1)) e))
        (branches (targets_of y) (code.targets n y is) (each_first P (targets_of y) (next_if (goes_on y) (n + 1)) e))

    handlers_all : (hs : List Handler) → list_all (handler_fits p b.insns) hs ≡ true → Each (λ (z : Handler). Q (z.position, kind_of t z.kind)) hs
        → list_all test (map (λ (z : ℕ × name.Kind). (z.0, caught_as z.1)) (map (λ (z : NamedHandler). (z.position, name.kind_of (named p) z.kind)) (map (handler_of p) hs))) ≡ true
    handlers_all [] f e = refl
    handlers_all (z ∷ zs) f e = both _ _
        (ap (λ k. test (z.position, caught_as k)) (sym (kind_is p t i.told z.kind))
        ∙ caught_one z.position (kind_of t z.kind) (handled b.insns z.position (and_right (has_type p z.kind) (may_begin (slice_get b.insns z.position)) (and_left (handler_fits p b.insns z) _ f))) e.0)
        (handlers_all zs (and_right (handler_fits p b.insns z) _ f) e.1)

    rest_all : (o : Option ℕ) → rest_fits b.insns o ≡ true → Each Q (catch_rest o) → list_all test (map (λ (z : ℕ × name.Kind). (z.0, caught_as z.1)) (typed.catch_all o)) ≡ true
    rest_all None f e = refl
    rest_all (Some q) f e = both _ _ (caught_one q kind.Reference (handled b.insns q f) e.0) refl

    region_all : (o : Option Region) → find (covers n) b.regions ≡ o → Each Q (catches_in t o) → list_all test (map (λ (z : ℕ × name.Kind). (z.0, caught_as z.1)) (typed.catches_in (named p) (option_map (region_of p) o))) ≡ true
    region_all None g e = refl
    region_all (Some r) g e =
        let f = found_fits (region_fits p b.insns) n b.regions r code.regions g in
        let k = and_right (has_handler r) (list_all (handler_fits p b.insns) r.handlers && rest_fits b.insns r.rest) (and_right _ (has_handler r && (list_all (handler_fits p b.insns) r.handlers && rest_fits b.insns r.rest)) f) in
        let ks = map (λ (z : Handler). (z.position, kind_of t z.kind)) r.handlers in
        ap (list_all test) (map_append (λ (z : ℕ × name.Kind). (z.0, caught_as z.1)) (map (λ (z : NamedHandler). (z.position, name.kind_of (named p) z.kind)) (map (handler_of p) r.handlers)) (typed.catch_all r.rest))
        ∙ all_append _ _ (map (λ (z : ℕ × name.Kind). (z.0, caught_as z.1)) (typed.catch_all r.rest))
        (handlers_all r.handlers (and_left (list_all (handler_fits p b.insns) r.handlers) (rest_fits b.insns r.rest) k) (each_map Q (λ (z : Handler). (z.position, kind_of t z.kind)) r.handlers (each_first Q ks (catch_rest r.rest) e)))
        (rest_all r.rest (and_right (list_all (handler_fits p b.insns) r.handlers) (rest_fits b.insns r.rest) k) (each_last Q ks (catch_rest r.rest) e))

    caught_by : (g : Bool) → throws y ≡ g → Each Q (if g then catches_in t (region_at b (place_covering b n)) else [])
        → list_all test (map (λ (z : ℕ × name.Kind). (z.0, caught_as z.1)) (if g then typed.catches_in (named p) (walks.region_at (body_of p b) n) else [])) ≡ true
    caught_by false g e = refl
    caught_by true g e =
        ap (λ o. list_all test (map (λ (z : ℕ × name.Kind). (z.0, caught_as z.1)) (typed.catches_in (named p) o))) (region_found p n b.regions)
        ∙ region_all (find (covers n) b.regions) refl (subst (λ o. Each Q (catches_in t o)) (regions_behind n [] b.regions 0 refl) e)

    caught_all : All Q (catches t b y n) → list_all test (map (λ (z : ℕ × name.Kind). (z.0, caught_as z.1)) (typed.catches (named p) (body_of p b) n (form_of p y))) ≡ true
    caught_all zs =
        ap (λ g. list_all test (map (λ (z : ℕ × name.Kind). (z.0, caught_as z.1)) (if g then typed.catches_in (named p) (walks.region_at (body_of p b) n) else []))) (throws_same p y)
        ∙ caught_by (throws y) refl (each_of Q (catches t b y n) zs)

    pub edges_named : All P (onward y n) → All Q (catches t b y n) → list_all test sent ≡ true
    edges_named ws zs = all_append _ (map (λ q. (q, left)) (walks.onward (form_of p y) n)) (map (λ (z : ℕ × name.Kind). (z.0, caught_as z.1)) (typed.catches (named p) (body_of p b) n (form_of p y))) (onward_all ws) (caught_all zs)
