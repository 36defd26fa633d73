-- A typing of a body in a program is one in what is left of it, where each kind is as it is left.
use Rattle.std.proofs.Common.{◌≡◌, ℕ, zero, suc, ◌-◌, ◌<◌, Bool, true, false, List, [], ◌∷◌, ◌++◌, length, refl, sym, ap, ◌∙◌, arith}
use Rattle.std.specs.Prelude.{◌&&◌, not, Option, Some, None, map, replicate, if◌then◌else◌}
use Rattle.std.specs.List.{list_all}
use Rattle.std.specs.Option.{option_map}
use Rattle.lemmas.proofs.Lists.{map_append, map_long, map_replicate}
use Rattle.dalvik_defs.specs.Names.{Text, object_type}
use Rattle.dalvik_defs.specs.Flags.{is_static, is_interface}
use Rattle.dalvik_defs.specs.Under.{defines}
use Rattle.dalvik_defs.specs.declared.forms.Form.{Form}
use Rattle.dalvik_defs.specs.declared.program.NamedHandler.{NamedHandler}
use Rattle.dalvik_defs.specs.declared.program.NamedRegion.{NamedRegion}
use Rattle.dalvik_defs.specs.declared.program.NamedBody.{NamedBody}
use Rattle.dalvik_defs.specs.declared.program.NamedClass.{NamedClass}
use Rattle.dalvik_defs.specs.declared.program.NamedMethod.{NamedMethod}
use Rattle.dalvik_defs.specs.declared.program.NamedProgram.{NamedProgram}
use Rattle.pass_defs.specs.Bare.{may_throw}
use Rattle.pass_defs.specs.Walks.{form_at, region_at, onward}
use Rattle.pass_defs.specs.Kinds.{Kind, Undefined, Class, Array, Reference, FreshThis, kind_of}
use Rattle.pass_defs.specs.Registers.{Kinds, state_below}
use Rattle.pass_defs.specs.Demands.{is_allowed}
use Rattle.pass_defs.specs.Live.{Family, KeepsAbove}
use Rattle.pass_defs.specs.Typed.{is_constructor, receiver_kind, halves, parameter_kinds, argument_kinds, begun, after, is_wrong, catch_all, catches_in, catches, edges, Table, state_at, each, at_state, arrives, IsTyping}
use Rattle.removal_law.specs.Left.{left_in, left_of, In, here, there}
use Rattle.removal_law.specs.Reach.{IsRegular, OkType}
use Rattle.removal_law.proofs.Lists.{and_left, and_behind}
use Rattle.removal_law.proofs.Classes.{Kept}
use Rattle.removal_law.proofs.TypedCode.{each_at}
use Rattle.removal_law.proofs.KindsLeft.{null_if, is_gone, is_lost, left_kind, class_stays, kind_left}
use Rattle.removal_law.proofs.DemandsLeft.{FormLeft}
use Rattle.removal_law.proofs.AllowedLeft.{allowed_left}
use Rattle.removal_law.proofs.WrongLeft.{right_left}
use Rattle.removal_law.proofs.AfterLeft.{after_left}
use Rattle.removal_law.proofs.WritesLeft.{left_kinds, Stands, stands_itself, stands_same, state_left}

-- ---- lists

-- a test of all images
all_images : {A B C : Type 0} (f : B → Bool) (g : C → Bool) (h : A → B) (k : A → C) → ((x : A) → f (h x) ≡ true → g (k x) ≡ true) → (xs : List A) → list_all f (map h xs) ≡ true → list_all g (map k xs) ≡ true
all_images f g h k i [] e = refl
all_images f g h k i (x ∷ xs) e = ap (λ b. b && list_all g (map k xs)) (i x (and_left (f (h x)) (list_all f (map h xs)) e)) ∙ all_images f g h k i xs (and_behind (f (h x)) (list_all f (map h xs)) e)

all_both : {A B : Type 0} (f : A → Bool) (g : B → Bool) (xs ys : List A) (us vs : List B) → (list_all f xs ≡ true → list_all g us ≡ true) → (list_all f ys ≡ true → list_all g vs ≡ true)
    → list_all f (xs ++ ys) ≡ true → list_all g (us ++ vs) ≡ true
all_both {A} {B} f g xs ys us vs h k e = joined us (h (front xs e)) (k (back xs e))
  where
    front : (xs : List A) → list_all f (xs ++ ys) ≡ true → list_all f xs ≡ true
    front [] e = refl
    front (x ∷ xs) e = ap (λ b. b && list_all f xs) (and_left (f x) (list_all f (xs ++ ys)) e) ∙ front xs (and_behind (f x) (list_all f (xs ++ ys)) e)

    back : (xs : List A) → list_all f (xs ++ ys) ≡ true → list_all f ys ≡ true
    back [] e = e
    back (x ∷ xs) e = back xs (and_behind (f x) (list_all f (xs ++ ys)) e)

    joined : (us : List B) → list_all g us ≡ true → list_all g vs ≡ true → list_all g (us ++ vs) ≡ true
    joined [] a b = b
    joined (u ∷ us) a b = ap (λ x. x && list_all g (us ++ vs)) (and_left (g u) (list_all g us) a) ∙ joined us (and_behind (g u) (list_all g us) a) b

each_below : (n : ℕ) (test : ℕ → Bool) → ((k : ℕ) → k < n → test k ≡ true) → each n test ≡ true
each_below zero test h = refl
each_below (suc n) test h = ap (λ b. b && test n) (each_below n test (λ k lt. h k (omega (arith, lt)))) ∙ h n (omega arith)

-- ---- a test of a position that has a state

module _ (b : NamedBody) (t : Table) (n : ℕ) (test : Form → Kinds → Bool) where
  abbrev on_state : Form → Option Kinds → Bool
  on_state f o = elim o as (λ o. Bool) [ Some a ↦ test f a | None ↦ true ]

  abbrev on_form : Option Form → Option Kinds → Bool
  on_form o x = elim o as (λ o. Bool) [ Some f ↦ on_state f x | None ↦ true ]

  holds_there : at_state b t test n ≡ true → (f : Form) (a : Kinds) → form_at b n ≡ Some f → state_at t n ≡ Some a → test f a ≡ true
  holds_there e f a i j = sym (ap (λ o. on_form o (state_at t n)) i ∙ ap (on_state f) j) ∙ e

module _ (p : NamedProgram) (s : Family) (above : KeepsAbove p s) (regular : IsRegular p) (none : defines p object_type ≡ false) (c : NamedClass) (m : NamedMethod) where
  abbrev q : NamedProgram
  q = left_of s p

  abbrev left : Kind → Kind
  left = left_kind p s

  abbrev lefts : Kinds → Kinds
  lefts = left_kinds p s

  abbrev pub left_table : Table → Table
  left_table t = map (option_map lefts) t

  state_same : (t : Table) (n : ℕ) → state_at (left_table t) n ≡ option_map lefts (state_at t n)
  state_same [] n = refl
  state_same (a ∷ t) zero = refl
  state_same (a ∷ t) (suc n) = state_same t n

  arrives_left : (t : Table) (n : ℕ) (a a' : Kinds) → Stands p s above regular none a a' → arrives p t (n, a) ≡ true → arrives q (left_table t) (n, a') ≡ true
  arrives_left t n a a' h e = ap (state_below q (Some a')) (state_same t n) ∙ state_left p s above regular none a a' (state_at t n) h e

  test_left : (b : NamedBody) (t : Table) (n : ℕ) (test : Form → Kinds → Bool) → ((f : Form) (a : Kinds) → form_at b n ≡ Some f → state_at t n ≡ Some a → test f (lefts a) ≡ true) → at_state b (left_table t) test n ≡ true
  test_left b t n test h = ap (on_form b t n test (form_at b n)) (state_same t n) ∙ by (form_at b n) (state_at t n) refl refl
    where
      by : (o : Option Form) (x : Option Kinds) → form_at b n ≡ o → state_at t n ≡ x → on_form b t n test o (option_map lefts x) ≡ true
      by None x i j = refl
      by (Some f) None i j = refl
      by (Some f) (Some a) i j = h f a i j

  -- ---- the entry

  halves_left : (k : Kind) → halves (left k) ≡ map left (halves k)
  halves_left (Class t) = by (is_gone p s t)
    where
      by : (b : Bool) → halves (null_if p s b (Class t)) ≡ null_if p s b (Class t) ∷ []
      by true = refl
      by false = refl
  halves_left (Array t) = by (is_lost p s t)
    where
      by : (b : Bool) → halves (null_if p s b (Array t)) ≡ null_if p s b (Array t) ∷ []
      by true = refl
      by false = refl
  halves_left k = refl

  parameters_left : (ts : List Text) → ((t : Text) → In t ts → OkType p s t) → parameter_kinds q ts ≡ map left (parameter_kinds p ts)
  parameters_left [] h = refl
  parameters_left (t ∷ ts) h =
      ap (λ k. halves k ++ parameter_kinds q ts) (kind_left p s above regular none t (h t (here ts)))
      ∙ ap (λ ks. ks ++ parameter_kinds q ts) (halves_left (kind_of p t))
      ∙ ap (λ ks. map left (halves (kind_of p t)) ++ ks) (parameters_left ts (λ u i. h u (there t ts i)))
      ∙ sym (map_append left (halves (kind_of p t)) (parameter_kinds p ts))

  receiver_left : Kept s p c.name → receiver_kind (left_in s c) m ≡ left (receiver_kind c m)
  receiver_left h = by (is_constructor m) (is_interface c.flags)
    where
      by : (a b : Bool) → (if a then FreshThis else if b then Reference else Class c.name) ≡ left (if a then FreshThis else if b then Reference else Class c.name)
      by true b = refl
      by false true = refl
      by false false = sym (class_stays p s c.name h)

  arguments_left : Kept s p c.name → ((t : Text) → In t m.signature.parameters → OkType p s t) → argument_kinds q (left_in s c) m ≡ map left (argument_kinds p c m)
  arguments_left h k = by (is_static m.flags)
    where
      by : (b : Bool) → (elim b as (λ b. List Kind) [ true ↦ parameter_kinds q m.signature.parameters | false ↦ receiver_kind (left_in s c) m ∷ parameter_kinds q m.signature.parameters ])
          ≡ map left (elim b as (λ b. List Kind) [ true ↦ parameter_kinds p m.signature.parameters | false ↦ receiver_kind c m ∷ parameter_kinds p m.signature.parameters ])
      by true = parameters_left m.signature.parameters k
      by false = ap (λ x. x ∷ parameter_kinds q m.signature.parameters) (receiver_left h) ∙ ap (λ ks. left (receiver_kind c m) ∷ ks) (parameters_left m.signature.parameters k)

  begun_left : (b : NamedBody) → Kept s p c.name → ((t : Text) → In t m.signature.parameters → OkType p s t) → begun q (left_in s c) m b ≡ lefts (begun p c m b)
  begun_left b h k =
      ap (λ ks. record (begun q (left_in s c) m b) { registers = ks })
      (ap (λ ks. replicate (b.registers - b.ins) Undefined ++ ks) (arguments_left h k)
      ∙ ap (λ ks. ks ++ map left (argument_kinds p c m)) (sym (map_replicate left (b.registers - b.ins) Undefined))
      ∙ sym (map_append left (replicate (b.registers - b.ins) Undefined) (argument_kinds p c m)))
      ∙ ap (λ k. record (lefts (begun p c m b)) { receiver = k }) (own (is_constructor m))
    where
      own : (b : Bool) → (if b then FreshThis else Undefined) ≡ left (if b then FreshThis else Undefined)
      own true = refl
      own false = refl

  -- ---- handlers

  abbrev left_catch : ℕ × Kind → ℕ × Kind
  left_catch h = (h.0, left h.1)

  handlers_left : (hs : List NamedHandler) → ((h : NamedHandler) → In h hs → OkType p s h.kind) → map {A = NamedHandler} {B = ℕ × Kind} (λ h. (h.position, kind_of q h.kind)) hs ≡ map left_catch (map (λ h. (h.position, kind_of p h.kind)) hs)
  handlers_left [] k = refl
  handlers_left (h ∷ hs) k =
      ap {A = Kind} {B = List (ℕ × Kind)} (λ x. (h.position, x) ∷ map (λ h. (h.position, kind_of q h.kind)) hs) (kind_left p s above regular none h.kind (k h (here hs)))
      ∙ ap {A = List (ℕ × Kind)} {B = List (ℕ × Kind)} (λ xs. (h.position, left (kind_of p h.kind)) ∷ xs) (handlers_left hs (λ x i. k x (there h hs i)))

  all_left : (o : Option ℕ) → catch_all o ≡ map left_catch (catch_all o)
  all_left None = refl
  all_left (Some n) = refl

  region_left : (o : Option NamedRegion) → ((r : NamedRegion) → o ≡ Some r → (h : NamedHandler) → In h r.handlers → OkType p s h.kind) → catches_in q o ≡ map left_catch (catches_in p o)
  region_left None k = refl
  region_left (Some r) k =
      ap (λ xs. xs ++ catch_all r.rest) (handlers_left r.handlers (k r refl))
      ∙ ap (λ xs. map left_catch (map (λ h. (h.position, kind_of p h.kind)) r.handlers) ++ xs) (all_left r.rest)
      ∙ sym (map_append left_catch (map (λ h. (h.position, kind_of p h.kind)) r.handlers) (catch_all r.rest))

  abbrev HandlersOk : NamedBody → Type 0
  HandlersOk b = (n : ℕ) (r : NamedRegion) → region_at b n ≡ Some r → (h : NamedHandler) → In h r.handlers → OkType p s h.kind

  catches_left : (b : NamedBody) (n : ℕ) (f : Form) → HandlersOk b → catches q b n f ≡ map left_catch (catches p b n f)
  catches_left b n f k = by (may_throw f)
    where
      by : (x : Bool) → (if x then catches_in q (region_at b n) else []) ≡ map left_catch (if x then catches_in p (region_at b n) else [])
      by true = region_left (region_at b n) (k n)
      by false = refl

  -- ---- edges

  map_twice : {A B C : Type 0} (f : A → B) (g : B → C) (xs : List A) → map g (map f xs) ≡ map (λ x. g (f x)) xs
  map_twice f g [] = refl
  map_twice f g (x ∷ xs) = ap (λ ys. g (f x) ∷ ys) (map_twice f g xs)

  edges_left : (b : NamedBody) (t : Table) (n : ℕ) (f : Form) (a : Kinds) → HandlersOk b → FormLeft p s c m f → is_allowed p c m a f ≡ true → not (is_wrong p c m a f) ≡ true
      → list_all (arrives p t) (edges p c b n f a) ≡ true → list_all (arrives q (left_table t)) (edges q (left_in s c) b n f (lefts a)) ≡ true
  edges_left b t n f a k h e w = all_both (arrives p t) (arrives q (left_table t))
      (map (λ x. (x, after p c n f a)) (onward f n)) (map (λ h. (h.0, record a { caught = h.1 })) (catches p b n f))
      (map (λ x. (x, after q (left_in s c) n f (lefts a))) (onward f n)) (map (λ h. (h.0, record (lefts a) { caught = h.1 })) (catches q b n f))
      (all_images {A = ℕ} {B = ℕ × Kinds} {C = ℕ × Kinds} (arrives p t) (arrives q (left_table t)) (λ x. (x, after p c n f a)) (λ x. (x, after q (left_in s c) n f (lefts a)))
      (λ x i. arrives_left t x (after p c n f a) (after q (left_in s c) n f (lefts a)) (after_left p s above regular none c m n f a h e w) i) (onward f n))
      (λ i. ap (list_all (arrives q (left_table t))) caught ∙ all_images {A = ℕ × Kind} {B = ℕ × Kinds} {C = ℕ × Kinds} (arrives p t) (arrives q (left_table t)) (λ h. (h.0, record a { caught = h.1 })) (λ h. (h.0, record (lefts a) { caught = left h.1 }))
      (λ h i. arrives_left t h.0 (record a { caught = h.1 }) (record (lefts a) { caught = left h.1 }) (stands_itself p s above regular none (record a { caught = h.1 })) i) (catches p b n f) i)
    where
      caught : map {A = ℕ × Kind} {B = ℕ × Kinds} (λ h. (h.0, record (lefts a) { caught = h.1 })) (catches q b n f) ≡ map {A = ℕ × Kind} {B = ℕ × Kinds} (λ h. (h.0, record (lefts a) { caught = left h.1 })) (catches p b n f)
      caught = ap (map {A = ℕ × Kind} {B = ℕ × Kinds} (λ h. (h.0, record (lefts a) { caught = h.1 }))) (catches_left b n f k)
          ∙ map_twice {A = ℕ × Kind} {B = ℕ × Kind} {C = ℕ × Kinds} left_catch (λ h. (h.0, record (lefts a) { caught = h.1 })) (catches p b n f)

  -- ---- a typing

  pub record BodyLeft (b : NamedBody) : Type 0 where
    pub class : Kept s p c.name
    pub parameters : (t : Text) → In t m.signature.parameters → OkType p s t
    pub handlers : HandlersOk b
    pub forms : (n : ℕ) (f : Form) → form_at b n ≡ Some f → FormLeft p s c m f

  pub typing_left : (b : NamedBody) (t : Table) → BodyLeft b → IsTyping p c m b t → IsTyping q (left_in s c) m b (left_table t)
  typing_left b t h typing = record {
    long = map_long (option_map lefts) t ∙ typing.long;
    entry = arrives_left t 0 (begun p c m b) (begun q (left_in s c) m b) (stands_same p s above regular none (begun p c m b) (begun q (left_in s c) m b) (begun_left b h.class h.parameters)) typing.entry;
    reads = each_below (length b.forms) (at_state b (left_table t) (λ f a. is_allowed q (left_in s c) m a f))
        (λ n lt. test_left b t n (λ f a. is_allowed q (left_in s c) m a f) (λ f a i j. allowed_left p s above regular none c m a f (h.forms n f i) (right n f a lt i j) (reads n f a lt i j)));
    right = each_below (length b.forms) (at_state b (left_table t) (λ f a. not (is_wrong q (left_in s c) m a f)))
        (λ n lt. test_left b t n (λ f a. not (is_wrong q (left_in s c) m a f)) (λ f a i j. right_left p s above regular none c m a f (h.forms n f i) (right n f a lt i j)));
    edges = each_below (length b.forms) (λ n. at_state b (left_table t) (λ f a. list_all (arrives q (left_table t)) (edges q (left_in s c) b n f a)) n)
        (λ n lt. test_left b t n (λ f a. list_all (arrives q (left_table t)) (edges q (left_in s c) b n f a))
        (λ f a i j. edges_left b t n f a h.handlers (h.forms n f i) (reads n f a lt i j) (right n f a lt i j) (holds_there b t n (λ f a. list_all (arrives p t) (edges p c b n f a))
        (each_at (length b.forms) (λ n. at_state b t (λ f a. list_all (arrives p t) (edges p c b n f a)) n) typing.edges n lt) f a i j)));
  }
    where
      right : (n : ℕ) (f : Form) (a : Kinds) → n < length b.forms → form_at b n ≡ Some f → state_at t n ≡ Some a → not (is_wrong p c m a f) ≡ true
      right n f a lt i j = holds_there b t n (λ f a. not (is_wrong p c m a f)) (each_at (length b.forms) (at_state b t (λ f a. not (is_wrong p c m a f))) typing.right n lt) f a i j

      reads : (n : ℕ) (f : Form) (a : Kinds) → n < length b.forms → form_at b n ≡ Some f → state_at t n ≡ Some a → is_allowed p c m a f ≡ true
      reads n f a lt i j = holds_there b t n (λ f a. is_allowed p c m a f) (each_at (length b.forms) (at_state b t (λ f a. is_allowed p c m a f)) typing.reads n lt) f a i j
