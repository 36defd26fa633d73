-- What the least typing by numbers, and the least flow, hold in the place of a constructor's receiver: the receiver itself, or what
-- is at or above the kind of its class. For a typing without the positions that hold something else is a typing too.
use Rattle.std.proofs.Common.{◌≡◌, ℕ, ◌<◌, Bool, true, false, List, map, Option, Some, None, refl, sym, ap, ◌∙◌, subst}
use Rattle.std.specs.Prelude.{◌||◌, All, slice_get, if◌then◌else◌}
use Rattle.std.proofs.lemmas.List.Elements.{All-weaker}
use Rattle.lemmas.proofs.Lists.{map_long}
use Rattle.insn_set.specs.declared.form.Insn.{Insn}
use Rattle.insn_set.specs.declared.form.Insn.TheVariants as insn
use Rattle.insn_set.specs.declared.ops.InvokeKind.{InvokeKind}
use Rattle.insn_set.specs.declared.ops.InvokeKind.TheVariants as call
use Rattle.program_model.specs.declared.body.Body.{Body}
use Rattle.program_model.specs.declared.program.Program.{Program}
use Rattle.verify.specs.declared.kinds.Kind.{Kind}
use Rattle.verify.specs.declared.kinds.Kind.TheVariants as kind
use Rattle.verify.specs.declared.setting.Setting.{Setting}
use Rattle.verify.specs.declared.shapes.Shape.{Shape}
use Rattle.verify.specs.declared.shapes.Shape.TheVariants as shape
use Rattle.verify.specs.declared.tables.Tables.{Tables}
use Rattle.verify.specs.After.{constructed, begun_call, called_by, after, receiver_register}
use Rattle.verify.specs.Flow.{form_after, place_at}
use Rattle.verify.specs.Frames.{Kinds, kind_at}
use Rattle.verify.specs.Joins.{joined}
use Rattle.verify.specs.Kinds.{same_kind, replaced}
use Rattle.verify.specs.Meeting.{IsMeeting}
use Rattle.verify.specs.Types.{kind_of, kind_of_shape, kind_of_class, is_constructor, shape_of}
use Rattle.verify.specs.Faults.{fault_of}
use Rattle.verify.specs.Typings.{Below, AtMost, Table, IsUnder, Arrives, IsTyping, IsLeastTyping, unless_fault, carried, carried_to, IsFlow, IsLeastFlow, onward, catches}
use Rattle.verify.proofs.Lattice.{same_is}
use Rattle.verify.proofs.Orders.{bare_below}
use Rattle.verify.proofs.Raises.{kind_itself, below_itself, below_on}
use Rattle.verify.proofs.Ranks.{lattice_of}
use Rattle.verify.proofs.Throws.{below_undefined}
use Rattle.type_bridge.proofs.BackTypings.{place_map}

-- ---- the test

-- the receiver of a constructor, or what is at or above a kind
pub data Holds (t : Tables) (own k : Kind) : Type 0 where
  this : k ≡ kind.FreshThis → Holds t own k
  over : Below t own k → Holds t own k

abbrev holds : Tables → Kind → Kind → Bool
holds t own k = same_kind k kind.FreshThis || same_kind (joined t own k) k

held : (t : Tables) (own k : Kind) → holds t own k ≡ true → Holds t own k
held t own k e = by (same_kind k kind.FreshThis) refl e
  where
    by : (b : Bool) → same_kind k kind.FreshThis ≡ b → (b || same_kind (joined t own k) k) ≡ true → Holds t own k
    by true f e = this (same_is k kind.FreshThis f)
    by false f e = over (same_is (joined t own k) k e)

tested : (t : Tables) (own k : Kind) → Holds t own k → holds t own k ≡ true
tested t own k (this e) = subst (λ k. holds t own k ≡ true) (sym e) refl
tested t own k (over e) = second (same_kind k kind.FreshThis) (same_kind (joined t own k) k) (ap (λ x. same_kind x k) e ∙ kind_itself k)
  where
    second : (a b : Bool) → b ≡ true → (a || b) ≡ true
    second true b e = refl
    second false b e = e

module _ (t : Tables) (m : IsMeeting t) (own : Kind) where
  this_upward : (k : Kind) → Below t kind.FreshThis k → Holds t own k
  this_upward kind.FreshThis e = this refl
  this_upward kind.Undefined e = over (below_undefined t (lattice_of t m) own)
  this_upward k e = absurd (cc)

  -- what is above it passes too
  upward : (k l : Kind) → Holds t own k → Below t k l → Holds t own l
  upward k l (this e) h = this_upward l (subst (λ k. Below t k l) e h)
  upward k l (over e) h = over (below_on t (lattice_of t m) own k l e h)

-- ---- forms

no_fresh_class : (o : Option ℕ) (b : Bool) (c n : ℕ) → kind_of_class o b ≡ kind.Fresh c n → ⊥
no_fresh_class None b c n e = cc
no_fresh_class (Some x) true c n e = cc
no_fresh_class (Some x) false c n e = cc

no_fresh : (s : Shape) (c n : ℕ) → kind_of_shape s ≡ kind.Fresh c n → ⊥
no_fresh shape.Void c n e = cc
no_fresh shape.Int c n e = cc
no_fresh (shape.Word w) c n e = cc
no_fresh shape.Wide c n e = cc
no_fresh (shape.Class o b) c n e = no_fresh_class o b c n e
no_fresh (shape.Array m i) c n e = cc

module _ (p : Program) (t : Tables) (class : ℕ) where
  abbrev own : Kind
  own = kind_of t class

  -- no place holds an object that isn't made but the receiver
  other_fresh : (c n : ℕ) (new k : Kind) → Holds t own k → Holds t own (replaced (kind.Fresh c n) new k)
  other_fresh c n new k (this e) = subst (λ k. Holds t own (replaced (kind.Fresh c n) new k)) (sym e) (this refl)
  other_fresh c n new k (over e) = by (same_kind k (kind.Fresh c n)) refl
    where
      by : (b : Bool) → same_kind k (kind.Fresh c n) ≡ b → Holds t own (if b then new else k)
      by true f = absurd (no_fresh (shape_of t class) c n (bare_below t own (kind.Fresh c n) (subst (Below t own) (same_is k (kind.Fresh c n) f) e) refl refl refl))
      by false f = over e

  made_this : (k : Kind) → Holds t own k → Holds t own (replaced kind.FreshThis own k)
  made_this k h = by (same_kind k kind.FreshThis)
    where
      by : (b : Bool) → Holds t own (if b then own else k)
      by true = over (below_itself t own)
      by false = h

  constructed_holds : (k : Kind) (a : Kinds) → Holds t own a.receiver → Holds t own (constructed t class k a).receiver
  constructed_holds (kind.Fresh c n) a h = other_fresh c n (kind_of t c) a.receiver h
  constructed_holds kind.FreshThis a h = made_this a.receiver h
  constructed_holds k a h = h

  begun_holds : (m : ℕ) (rs : List ℕ) (a : Kinds) → Holds t own a.receiver → Holds t own (begun_call t class m rs a).receiver
  begun_holds m rs a h = by (is_constructor t m)
    where
      by : (b : Bool) → Holds t own (if b then constructed t class (kind_at a.registers (receiver_register rs)) a else a).receiver
      by true = constructed_holds (kind_at a.registers (receiver_register rs)) a h
      by false = h

  called_holds : (k : InvokeKind) (m : ℕ) (rs : List ℕ) (a : Kinds) → Holds t own a.receiver → Holds t own (called_by k p t class m rs a).receiver
  called_holds call.Static m rs a h = h
  called_holds call.Virtual m rs a h = begun_holds m rs a h
  called_holds call.Super m rs a h = begun_holds m rs a h
  called_holds call.Direct m rs a h = begun_holds m rs a h
  called_holds call.Interface m rs a h = begun_holds m rs a h

  after_holds : (n : ℕ) (i : Insn) (a : Kinds) → Holds t own a.receiver → Holds t own (after p t class n i a).receiver
  after_holds n (insn.Invoke k m rs) a h = called_holds k m rs a h
  after_holds n i a h = h

-- ---- a typing without some positions

abbrev kept_if : Bool → Kinds → Option Kinds
kept_if true a = Some a
kept_if false a = None

module _ (s : Setting) (m : IsMeeting s.tables.now) (b : Body) (entry : Kinds) (begins : Holds s.tables.now (kind_of s.tables.now s.kind) entry.receiver) (x : Table) where
  abbrev class : Kind
  class = kind_of s.tables.now s.kind

  abbrev kept : Option Kinds → Option Kinds
  kept None = None
  kept (Some a) = kept_if (holds s.tables.now class a.receiver) a

  abbrev rest : Table
  rest = map kept x

  place_is : (n : ℕ) → place_at rest n ≡ kept (place_at x n)
  place_is n = place_map kept refl x n

  record IsKept (o : Option Kinds) (a : Kinds) : Type 0 where
    pub is : o ≡ Some a
    pub holds : Holds s.tables.now class a.receiver

  kept_is : (o : Option Kinds) (a : Kinds) → kept o ≡ Some a → IsKept o a
  kept_is None a e = absurd (cc)
  kept_is (Some z) a e = by (holds s.tables.now class z.receiver) refl e
    where
      by : (g : Bool) → holds s.tables.now class z.receiver ≡ g → kept_if g z ≡ Some a → IsKept (Some z) a
      by true f e = let q : z ≡ a = cc in record { is = ap Some q; holds = subst (λ a. Holds s.tables.now class a.receiver) q (held s.tables.now class z.receiver f) }
      by false f e = absurd (cc)

  at_place : (n : ℕ) (a : Kinds) → place_at rest n ≡ Some a → IsKept (place_at x n) a
  at_place n a e = kept_is (place_at x n) a (sym (place_is n) ∙ e)

  -- what arrives at a position with such a receiver arrives at one that is kept
  arrives : (k : Kinds) → Holds s.tables.now class k.receiver → (o : Option Kinds) → AtMost s.tables.now (Some k) o → AtMost s.tables.now (Some k) (kept o)
  arrives k h None l = l
  arrives k h (Some z) l = subst (λ g. AtMost s.tables.now (Some k) (kept_if g z)) (sym (tested s.tables.now class z.receiver (upward s.tables.now m class k.receiver z.receiver h l.receiver))) l

  still : (k : Kinds) → Holds s.tables.now class k.receiver → (q : ℕ) → Arrives s.tables.now x q k → Arrives s.tables.now rest q k
  still k h q f l = subst (AtMost s.tables.now (Some k)) (sym (place_is q)) (arrives k h (place_at x q) (f (subst (λ n. q < n) (map_long kept x) l)))

  module _ (y : IsTyping s b entry x) where
    onward_still : (n : ℕ) (i : Insn) (a : Kinds) → slice_get b.insns n ≡ Some i → IsKept (place_at x n) a → All (λ q. Arrives s.tables.now rest q (form_after s n i a)) (onward i n)
    onward_still n i a is h = All-weaker (λ q. Arrives s.tables.now x q (form_after s n i a)) (λ q. Arrives s.tables.now rest q (form_after s n i a))
        (still (form_after s n i a) (after_holds s.program.now s.tables.now s.kind n i a h.holds)) (onward i n) (y.onward n i a is h.is)

    caught_still : (n : ℕ) (i : Insn) (a : Kinds) → slice_get b.insns n ≡ Some i → IsKept (place_at x n) a → All (λ k. Arrives s.tables.now rest k.0 (record a { caught = k.1 })) (catches s.tables.now b i n)
    caught_still n i a is h = All-weaker (λ (k : ℕ × Kind). Arrives s.tables.now x k.0 (record a { caught = k.1 })) (λ (k : ℕ × Kind). Arrives s.tables.now rest k.0 (record a { caught = k.1 }))
        (λ k. still (record a { caught = k.1 }) h.holds k.0) (catches s.tables.now b i n) (y.caught n i a is h.is)

    rest_typing : IsTyping s b entry rest
    rest_typing = record {
      long = map_long kept x ∙ y.long;
      wide = λ n a e. y.wide n a (at_place n a e).is;
      begins = still entry begins 0 y.begins;
      onward = λ n i a is at. onward_still n i a is (at_place n a at);
      caught = λ n i a is at. caught_still n i a is (at_place n a at);
      reads = λ n i a is at. y.reads n i a is (at_place n a at).is;
    }

  -- a table that is under the rest has no others
  under_holds : IsUnder s.tables.now x rest → (n : ℕ) (a : Kinds) → place_at x n ≡ Some a → Holds s.tables.now class a.receiver
  under_holds y n a e = by (holds s.tables.now class a.receiver) refl
      (subst (λ o. AtMost s.tables.now o (kept o)) e (subst (AtMost s.tables.now (place_at x n)) (place_is n) (y n)))
    where
      by : (g : Bool) → holds s.tables.now class a.receiver ≡ g → AtMost s.tables.now (Some a) (kept_if g a) → Holds s.tables.now class a.receiver
      by true f l = held s.tables.now class a.receiver f
      by false f l = absurd l

  pub least_holds : IsLeastTyping s b entry x → (n : ℕ) (a : Kinds) → place_at x n ≡ Some a → Holds s.tables.now class a.receiver
  least_holds y n a e = under_holds (y.least rest (rest_typing y.typing)) n a e

  -- ---- flows

  unless_holds : (o : Option ℕ) (k : Kinds) → Holds s.tables.now class k.receiver → Holds s.tables.now class (unless_fault o b k).receiver
  unless_holds None k h = h
  unless_holds (Some r) k h = over (below_undefined s.tables.now (lattice_of s.tables.now m) class)

  module _ (y : IsFlow s b entry x) where
    onward_flows : (n : ℕ) (i : Insn) (a : Kinds) → slice_get b.insns n ≡ Some i → IsKept (place_at x n) a → All (λ q. Arrives s.tables.now rest q (carried s b n i a)) (onward i n)
    onward_flows n i a is h = All-weaker (λ q. Arrives s.tables.now x q (carried s b n i a)) (λ q. Arrives s.tables.now rest q (carried s b n i a))
        (still (carried s b n i a) (unless_holds (fault_of s n a i) (form_after s n i a) (after_holds s.program.now s.tables.now s.kind n i a h.holds))) (onward i n) (y.onward n i a is h.is)

    caught_flows : (n : ℕ) (i : Insn) (a : Kinds) → slice_get b.insns n ≡ Some i → IsKept (place_at x n) a → All (λ k. Arrives s.tables.now rest k.0 (carried_to s b n i a k.1)) (catches s.tables.now b i n)
    caught_flows n i a is h = All-weaker (λ (k : ℕ × Kind). Arrives s.tables.now x k.0 (carried_to s b n i a k.1)) (λ (k : ℕ × Kind). Arrives s.tables.now rest k.0 (carried_to s b n i a k.1))
        (λ k. still (carried_to s b n i a k.1) (unless_holds (fault_of s n a i) (record a { caught = k.1 }) h.holds) k.0) (catches s.tables.now b i n) (y.caught n i a is h.is)

    rest_flow : IsFlow s b entry rest
    rest_flow = record {
      long = map_long kept x ∙ y.long;
      wide = λ n a e. y.wide n a (at_place n a e).is;
      begins = still entry begins 0 y.begins;
      onward = λ n i a is at. onward_flows n i a is (at_place n a at);
      caught = λ n i a is at. caught_flows n i a is (at_place n a at);
    }

  pub least_flow_holds : IsLeastFlow s b entry x → (n : ℕ) (a : Kinds) → place_at x n ≡ Some a → Holds s.tables.now class a.receiver
  least_flow_holds y n a e = under_holds (y.least rest (rest_flow y.flow)) n a e
