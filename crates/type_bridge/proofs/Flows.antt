-- A flow by numbers is one by names, and the numbers of one by names are one by numbers.
use Rattle.std.proofs.Common.{◌≡◌, ℕ, zero, suc, ◌<◌, Bool, true, false, List, [], ◌∷◌, map, length, Option, Some, None, refl, sym, ap, ◌∙◌, subst}
use Rattle.std.specs.Prelude.{◌&&◌, not, slice_get, replicate, All}
use Rattle.std.specs.List.{list_all}
use Rattle.std.proofs.lemmas.List.{length-replicate}
use Rattle.lemmas.proofs.Lists.{map_long, map_replicate}
use Rattle.class_defs.proofs.Positions.{both}
use Rattle.class_defs.proofs.WellFormed.{and_left, and_right}
use Rattle.insn_set.specs.declared.form.Insn.{Insn}
use Rattle.program_model.specs.declared.body.Body.{Body}
use Rattle.program_model.specs.declared.program.Class.{Class}
use Rattle.program_model.specs.declared.program.Method.{Method}
use Rattle.program_model.specs.declared.program.Program.{Program}
use Rattle.dalvik_defs.specs.Naming.{type_at, form_of, body_of, named_class, named_method, named}
use Rattle.pass_defs.specs.Demands as asked
use Rattle.pass_defs.specs.Kinds as name
use Rattle.pass_defs.specs.Kinds.{Undefined, is_below}
use Rattle.pass_defs.specs.Registers as by_name
use Rattle.pass_defs.specs.Typed as typed
use Rattle.verify.specs.declared.kinds.Kind as number
use Rattle.verify.specs.declared.kinds.Kind.TheVariants as kind
use Rattle.verify.specs.declared.setting.Setting.{Setting}
use Rattle.verify.specs.declared.tables.Tables.{Tables}
use Rattle.verify.specs.Entry.{begun}
use Rattle.verify.specs.Faults.{fault_of}
use Rattle.verify.specs.Flow.{form_after, place_at}
use Rattle.verify.specs.Frames.{Kinds, kind_at, all_undefined}
use Rattle.verify.specs.Methods.{constructs, receiver_of}
use Rattle.verify.specs.Names.{parameters_of}
use Rattle.verify.specs.Supers.{Finds}
use Rattle.verify.specs.Typings.{Below, IsLattice, IsBelow, Table, Arrives, unless_fault, carried, carried_to, IsFlow, onward, catches}
use Rattle.verify.proofs.Raises.{kinds_on}
use Rattle.verify.proofs.Ranks.{lattice_of}
use Rattle.verify.proofs.Throws.{below_undefined}
use Rattle.verify.proofs.Wide.{form_after_long}
use Rattle.type_bridge.specs.Views.{kind_named, receiver_named, kinds_named, table_named}
use Rattle.type_bridge.proofs.Back.{numbered}
use Rattle.type_bridge.proofs.BackEdges.{goes_back, caught_back}
use Rattle.type_bridge.proofs.BackFrames.{kinds_numbered, kinds_back}
use Rattle.type_bridge.proofs.BackTypings as back
use Rattle.type_bridge.proofs.BackTypings.{kept, table_numbered, entered_number, at_place, wide_at, tested}
use Rattle.type_bridge.proofs.Bodies.{IsCode}
use Rattle.type_bridge.proofs.Edges.{edges_named}
use Rattle.type_bridge.proofs.Frames.{at_named, all_at, close}
use Rattle.type_bridge.proofs.Grounds.{IsSet}
use Rattle.type_bridge.proofs.Judged.{arrived, entered_named, goes_named, caught_one, reads_at, right_at, at_positions, long_named}
use Rattle.type_bridge.proofs.Long.{after_long}
use Rattle.type_bridge.proofs.Order.{undefined_above}

all_map : {A B : Type 0} (test : B → Bool) (f : A → B) (xs : List A) → list_all test (map f xs) ≡ list_all (λ x. test (f x)) xs
all_map test f [] = refl
all_map test f (x ∷ xs) = ap (λ b. test (f x) && b) (all_map test f xs)

nothing_at : (m r : ℕ) → kind_at (replicate m kind.Undefined) r ≡ kind.Undefined
nothing_at zero r = refl
nothing_at (suc m) zero = refl
nothing_at (suc m) (suc r) = nothing_at m r

module _ (t : Tables) (l : IsLattice t) where
  undefined_over : (m : ℕ) (a : Kinds) → length a.registers ≡ m → IsBelow t a (all_undefined m)
  undefined_over m a e = record {
    long = e ∙ sym (length-replicate m kind.Undefined);
    registers = λ r. subst (Below t (kind_at a.registers r)) (sym (nothing_at m r)) (below_undefined t l (kind_at a.registers r));
    result = below_undefined t l a.result;
    caught = below_undefined t l a.caught;
    receiver = below_undefined t l a.receiver;
  }

  -- nothing else is above what is undefined
  undefined_alone : (k : number.Kind) → Below t kind.Undefined k → k ≡ kind.Undefined
  undefined_alone k h = sym h ∙ l.swaps kind.Undefined k ∙ below_undefined t l k

module _ (s : Setting) (c : Class) (m : Method) (i : IsSet s c m) (b : Body) (code : IsCode s.program.now m b) (finds : Finds s.program.now s.class b.insns s.found.now) where
  abbrev p : Program
  p = s.program.now

  abbrev t : Tables
  t = s.tables.now

  abbrev own : name.Kind
  own = name.kind_of (named p) (type_at p c.name)

  abbrev entry : Kinds
  entry = begun s b (receiver_of c s.class m (constructs t m)) (parameters_of p m.name)

  abbrev pub IsNamedFlow : typed.Table → Type 0
  IsNamedFlow u = typed.IsFlow (named p) (named_class p c) (named_method p m) (body_of p b) u

  unless_long : (o : Option ℕ) (k : Kinds) → length k.registers ≡ b.registers → length (unless_fault o b k).registers ≡ b.registers
  unless_long None k e = e
  unless_long (Some r) k e = length-replicate b.registers kind.Undefined

  -- ---- from numbers to names

  -- what has as many registers as undefined kinds is at or below what is above them
  below_nothing : (e : by_name.Kinds) (k : Kinds) → length e.registers ≡ b.registers → IsBelow t (all_undefined b.registers) k → by_name.kinds_below (named p) e (kinds_named p own k) ≡ true
  below_nothing e k w h = close (named p) e (kinds_named p own k)
      (all_at (named p) e.registers (map (kind_named p) k.registers) (w ∙ sym (length-replicate b.registers kind.Undefined) ∙ h.long ∙ sym (map_long (kind_named p) k.registers)) register)
      (under e.result k.result h.result) (under e.caught k.caught h.caught)
      (subst (λ z. is_below (named p) e.receiver (receiver_named own z) ≡ true) (sym (undefined_alone t l k.receiver h.receiver)) (undefined_above (named p) e.receiver))
    where
      l : IsLattice t
      l = lattice_of t i.told.meets

      under : (z : name.Kind) (x : number.Kind) → Below t kind.Undefined x → is_below (named p) z (kind_named p x) ≡ true
      under z x f = subst (λ x. is_below (named p) z (kind_named p x) ≡ true) (sym (undefined_alone t l x f)) (undefined_above (named p) z)

      register : (r : ℕ) → is_below (named p) (by_name.kind_at e.registers r) (by_name.kind_at (map (kind_named p) k.registers) r) ≡ true
      register r = ap (is_below (named p) (by_name.kind_at e.registers r)) (at_named p k.registers r)
          ∙ under (by_name.kind_at e.registers r) (kind_at k.registers r) (subst (λ z. Below t z (kind_at k.registers r)) (nothing_at b.registers r) (h.registers r))

  module _ (x : Table) (h : IsFlow s b entry x) where
    abbrev here : typed.Table
    here = table_named p own x

    -- where nothing but undefined kinds arrives, all else does by name
    nothing_named : (q : ℕ) (e : by_name.Kinds) → q < length b.insns → Arrives t x q (all_undefined b.registers) → length e.registers ≡ b.registers → typed.arrives (named p) here (q, e) ≡ true
    nothing_named q e l f w = arrived s c m i b code finds x h.long q (all_undefined b.registers) e l f (λ k g. below_nothing e k w g)

    guarded_nothing : (good : Bool) (q : ℕ) (e : by_name.Kinds) → q < length b.insns → Arrives t x q (all_undefined b.registers) → length e.registers ≡ b.registers → typed.arrives (named p) here (typed.guarded good (body_of p b) (q, e)) ≡ true
    guarded_nothing true q e l f w = nothing_named q e l f w
    guarded_nothing false q e l f w = nothing_named q (by_name.all_undefined b.registers) l f (length-replicate b.registers Undefined)

    module _ (n : ℕ) (y : Insn) (a : Kinds) (is : slice_get b.insns n ≡ Some y) (at : place_at x n ≡ Some a) where
      abbrev before : by_name.Kinds
      before = kinds_named p own a

      abbrev left : by_name.Kinds
      left = typed.after (named p) (named_class p c) n (form_of p y) before

      abbrev good : Bool
      good = typed.is_good (named p) (named_class p c) (named_method p m) before (form_of p y)

      abbrev test : ℕ × by_name.Kinds → Bool
      test e = typed.arrives (named p) here (typed.guarded good (body_of p b) e)

      wide_named : length before.registers ≡ b.registers
      wide_named = map_long (kind_named p) a.registers ∙ h.wide n a at

      good_of : fault_of s n a y ≡ None → good ≡ true
      good_of f = both (asked.is_allowed (named p) (named_class p c) (named_method p m) before (form_of p y)) (not (typed.is_wrong (named p) (named_class p c) (named_method p m) before (form_of p y)))
          (reads_at s c m i b code finds x h.long n y a is f) (right_at s c m i b code finds x h.long n y a is f)

      goes_flow : (q : ℕ) → q < length b.insns → Arrives t x q (carried s b n y a) → test (q, left) ≡ true
      goes_flow q l e = by (fault_of s n a y) refl e
        where
          by : (o : Option ℕ) → fault_of s n a y ≡ o → Arrives t x q (unless_fault o b (form_after s n y a)) → test (q, left) ≡ true
          by None f e = ap (λ g. typed.arrives (named p) here (typed.guarded g (body_of p b) (q, left))) (good_of f) ∙ goes_named s c m i b code finds x h.long n y a is f q l e
          by (Some r) f e = guarded_nothing good q left l e (after_long (named p) (named_class p c) n (form_of p y) before ∙ wide_named)

      caught_flow : (q : ℕ) (k : number.Kind) → q < length b.insns → Arrives t x q (carried_to s b n y a k) → test (q, record before { caught = kind_named p k }) ≡ true
      caught_flow q k l e = by (fault_of s n a y) refl e
        where
          by : (o : Option ℕ) → fault_of s n a y ≡ o → Arrives t x q (unless_fault o b (record a { caught = k })) → test (q, record before { caught = kind_named p k }) ≡ true
          by None f e = ap (λ g. typed.arrives (named p) here (typed.guarded g (body_of p b) (q, record before { caught = kind_named p k }))) (good_of f) ∙ caught_one s c m i b code finds x h.long n y a is q k l e
          by (Some r) f e = guarded_nothing good q (record before { caught = kind_named p k }) l e wide_named

      flows_at : list_all (typed.arrives (named p) here) (typed.flows (named p) (named_class p c) (named_method p m) (body_of p b) n (form_of p y) before) ≡ true
      flows_at = all_map (typed.arrives (named p) here) (typed.guarded good (body_of p b)) (typed.edges (named p) (named_class p c) (body_of p b) n (form_of p y) before)
          ∙ edges_named s c m i b n y before left test code is (λ q. Arrives t x q (carried s b n y a)) (λ k. Arrives t x k.0 (carried_to s b n y a k.1))
          goes_flow caught_flow (h.onward n y a is at) (h.caught n y a is at)

    pub flow_named : IsNamedFlow here
    flow_named = record {
      long = long_named s c m i b code finds x h.long;
      entry = entered_named s c m i b code finds x h.long h.begins;
      edges = at_positions s c m i b code finds x (λ n f a. list_all (typed.arrives (named p) here) (typed.flows (named p) (named_class p c) (named_method p m) (body_of p b) n f a)) flows_at;
    }

  -- ---- from names to numbers

  numbered_nothing : kinds_numbered p (by_name.all_undefined b.registers) ≡ all_undefined b.registers
  numbered_nothing = ap (λ l. record (all_undefined b.registers) { registers = l }) (map_replicate (numbered p) b.registers Undefined)

  module _ (u : typed.Table) (h : IsNamedFlow u) where
    abbrev numbers : Table
    numbers = table_numbered s c m i b code finds u

    -- where nothing but undefined kinds arrives by name, all else does
    nothing_number : (q : ℕ) (k : Kinds) → length k.registers ≡ b.registers → typed.arrives (named p) u (q, by_name.all_undefined b.registers) ≡ true → Arrives t numbers q k
    nothing_number q k w e = back.arrived s c m i b code finds u q k (by_name.all_undefined b.registers) w e
        (λ z g. kinds_on t (lattice_of t i.told.meets) k (all_undefined b.registers) (kinds_numbered p z) (undefined_over t (lattice_of t i.told.meets) b.registers k w)
        (subst (λ w. IsBelow t w (kinds_numbered p z)) numbered_nothing (kinds_back p t i.told (by_name.all_undefined b.registers) z g)))

    module _ (n : ℕ) (y : Insn) (z : by_name.Kinds) (is : slice_get b.insns n ≡ Some y) (at : typed.state_at u n ≡ Some z) (wide : length z.registers ≡ b.registers) where
      abbrev from : Kinds
      from = kinds_numbered p z

      abbrev left_of : by_name.Kinds
      left_of = typed.after (named p) (named_class p c) n (form_of p y) z

      abbrev is_fine : Bool
      is_fine = typed.is_good (named p) (named_class p c) (named_method p m) z (form_of p y)

      abbrev check : ℕ × by_name.Kinds → Bool
      check e = typed.arrives (named p) u (typed.guarded is_fine (body_of p b) e)

      abbrev Goes : ℕ → Type 0
      Goes q = Arrives t numbers q (carried s b n y from)

      abbrev Caught : ℕ × number.Kind → Type 0
      Caught k = Arrives t numbers k.0 (carried_to s b n y from k.1)

      wide_number : length from.registers ≡ b.registers
      wide_number = map_long (numbered p) z.registers ∙ wide

      abbrev allowed : Bool
      allowed = asked.is_allowed (named p) (named_class p c) (named_method p m) z (form_of p y)

      abbrev wrong : Bool
      wrong = typed.is_wrong (named p) (named_class p c) (named_method p m) z (form_of p y)

      right_of : is_fine ≡ true → wrong ≡ false
      right_of g = by wrong (and_right allowed (not wrong) g)
        where
          by : (w : Bool) → not w ≡ true → w ≡ false
          by false e = refl
          by true e = sym e

      fine_of : is_fine ≡ true → fault_of s n from y ≡ None
      fine_of g = back.no_fault s c m i b code finds u n y z is wide (and_left allowed (not wrong) g) (right_of g)

      goes_number : (q : ℕ) → check (q, left_of) ≡ true → Goes q
      goes_number q e = by is_fine refl e
        where
          by : (g : Bool) → is_fine ≡ g → typed.arrives (named p) u (typed.guarded g (body_of p b) (q, left_of)) ≡ true → Goes q
          by true g e = subst (λ o. Arrives t numbers q (unless_fault o b (form_after s n y from))) (sym (fine_of g)) (back.goes s c m i b code finds u n y z is wide (and_left allowed (not wrong) g) (right_of g) q e)
          by false g e = nothing_number q (carried s b n y from) (unless_long (fault_of s n from y) (form_after s n y from) (form_after_long s n y from ∙ wide_number)) e

      caught_number : (q : ℕ) (k : name.Kind) (l : number.Kind) → numbered p k ≡ l → check (q, record z { caught = k }) ≡ true → Caught (q, l)
      caught_number q k l f e = by is_fine refl e
        where
          by : (g : Bool) → is_fine ≡ g → typed.arrives (named p) u (typed.guarded g (body_of p b) (q, record z { caught = k })) ≡ true → Caught (q, l)
          by true g e = subst (λ o. Arrives t numbers q (unless_fault o b (record from { caught = l }))) (sym (fine_of g)) (back.caught_one s c m i b code finds u n y z is wide q k l f e)
          by false g e = nothing_number q (carried_to s b n y from l) (unless_long (fault_of s n from y) (record from { caught = l }) wide_number) e

      edges : list_all check (typed.edges (named p) (named_class p c) (body_of p b) n (form_of p y) z) ≡ true
      edges = sym (all_map (typed.arrives (named p) u) (typed.guarded is_fine (body_of p b)) (typed.edges (named p) (named_class p c) (body_of p b) n (form_of p y) z))
          ∙ tested s c m i b code finds u (λ n f a. list_all (typed.arrives (named p) u) (typed.flows (named p) (named_class p c) (named_method p m) (body_of p b) n f a)) n y z is at h.edges

      goes_all : All Goes (onward y n)
      goes_all = goes_back s c m i b n y z left_of check Goes Caught goes_number caught_number edges

      caught_all : All Caught (catches t b y n)
      caught_all = caught_back s c m i b n y z left_of check Goes Caught goes_number caught_number edges

    pub flow_numbered : IsFlow s b entry numbers
    flow_numbered = record {
      long = map_long (kept p b.registers) u ∙ h.long ∙ map_long (form_of p) b.insns;
      wide = wide_at s c m i b code finds u;
      begins = entered_number s c m i b code finds u h.entry;
      onward = λ n y k is at. let r = at_place s c m i b code finds u n k at in subst (λ k. All (λ q. Arrives t numbers q (carried s b n y k)) (onward y n)) r.same (goes_all n y r.kinds is r.is r.long);
      caught = λ n y k is at. let r = at_place s c m i b code finds u n k at in subst (λ k. All (λ z. Arrives t numbers z.0 (carried_to s b n y k z.1)) (catches t b y n)) r.same (caught_all n y r.kinds is r.is r.long);
    }
