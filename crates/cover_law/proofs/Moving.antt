-- What the framework's moves leave is covered: entries, answers, and fields and items that it writes.
use Rattle.std.proofs.Common.{◌≡◌, ℕ, suc, Bool, true, false, true≢false, List, [], ◌∷◌, Option, Some, None, refl, sym, ap, ◌∙◌, subst, arith}
use Rattle.std.specs.Prelude.{◌&&◌, ◌-◌, not, nat_lt, length, replicate, slice_set, Contains}
use Rattle.dalvik_defs.specs.Names.{Text}
use Rattle.dalvik_defs.specs.Face.{face_of, bodies_of, declared_in}
use Rattle.dalvik_defs.specs.Fields.{with_instance}
use Rattle.dalvik_defs.specs.Find.{Found, defined_field}
use Rattle.dalvik_defs.specs.Flags.{is_static}
use Rattle.dalvik_defs.specs.Gives.{gets, gets_all, spread, all_fit, is_on}
use Rattle.dalvik_defs.specs.Initialised.{initialised_first, initialiser_of}
use Rattle.dalvik_defs.specs.Items.{stored, item_of_type}
use Rattle.dalvik_defs.specs.Legal.{may_enter, may_enter_found, may_make, may_reach, receiver_ok, is_class_initialiser}
use Rattle.dalvik_defs.specs.Moves.{with_field, with_item}
use Rattle.dalvik_defs.specs.Outer.{Outer}
use Rattle.dalvik_defs.specs.State.{World, Classes, Thing, Instance, Items, fresh, is_null, kind_of, next_object, with_thing, thing_at, put_thing}
use Rattle.dalvik_defs.specs.Show.{show}
use Rattle.dalvik_defs.specs.Under.{defines, is_under}
use Rattle.dalvik_defs.specs.declared.names.FieldKey.{FieldKey}
use Rattle.dalvik_defs.specs.declared.names.MethodKey.{MethodKey}
use Rattle.dalvik_defs.specs.declared.state.Value.{Value}
use Rattle.dalvik_defs.specs.declared.state.Value.TheVariants.{Word}
use Rattle.dalvik_defs.specs.declared.script.Given.{Given}
use Rattle.dalvik_defs.specs.declared.program.NamedBody.{NamedBody}
use Rattle.dalvik_defs.specs.declared.program.NamedField.{NamedField}
use Rattle.dalvik_defs.specs.declared.program.NamedProgram.{NamedProgram}
use Rattle.dalvik_defs.specs.declared.tables.Floats.{Floats}
use Rattle.dalvik_defs.specs.declared.tables.Framework.{Framework}
use Rattle.pass_defs.specs.Analysis.{Analysis, IsRanged}
use Rattle.run_facts.specs.Closed.{IsEntered, Enters, Makes}
use Rattle.pass_defs.specs.Facts.{Facts, Initialises, Itself, First, IsEnteredStatic, IsEnteredOn}
use Rattle.run_laws.specs.Fine.{IsThere}
use Rattle.run_laws.specs.Holds.{Each}
use Rattle.run_laws.proofs.Fine.{each_get}
use Rattle.run_laws.proofs.Plain.{gets_grow}
use Rattle.run_laws.proofs.Stacked.{EnteredOver, WrittenOver}
use Rattle.run_facts.specs.Covered.{Sees, CoversClass, CoversWorld}
use Rattle.run_laws.specs.TypedStates.{TypedWorld}
use Rattle.run_laws.proofs.Settled.{IsSettled, FindsRegularly}
use Rattle.run_laws.proofs.Registers.{and_left, and_right}
use Rattle.run_laws.proofs.Climbs.{none_some, defined_by}
use Rattle.run_laws.proofs.Framework.{untrue}
use Rattle.run_laws.proofs.Here.{setting}
use Rattle.cover_law.proofs.Ready.{IsReady}
use Rattle.cover_law.specs.Known.{KnownWorld}
use Rattle.cover_law.proofs.Entering.{Passes, entry_top}
use Rattle.cover_law.proofs.Fields.{covers_static, covers_instance}
use Rattle.cover_law.proofs.Given.{IsDeclared, declared, entered_static, gets_same, all_same, each_behind, defined_under, made_under}
use Rattle.cover_law.proofs.Stays.{below, covers}
use Rattle.cover_law.proofs.Worlds.{SameFields, FieldsThere, typed_fields, fields_over, covers_over, same_with, same_then, same_show, same_put_over}

each_of : (P : Text → Type 0) (ts : List Text) → ((u : Text) → Contains ts u → P u) → Each P ts
each_of P [] h = tt
each_of P (t ∷ ts) h = (h t (0, omega arith, refl), each_of P ts (λ u c. h u (suc c.0, omega (arith, c.1), c.2)))

first_last : (p : NamedProgram) (v t u : Text) → Initialises p v t → Contains (initialised_first p t) u → Initialises p v u
first_last p v t u (Itself t1) c = First v u u c (Itself u)
first_last p v t u (First t1 x t2 d rest) c = First v x u d (first_last p x t u rest c)

module _ {V : Type 0} (a : Analysis V) (p : NamedProgram) (o : Outer) (f : Framework) (floats : Floats) (facts : Facts V) (base : IsReady a p o f floats facts) (reg : IsSettled p) (finds : FindsRegularly p f) where
  abbrev S : V → World → Value → Type 0
  S = Sees a p o facts

  abbrev Enter : World → Classes → MethodKey → List Value → Option NamedBody → Type 0
  Enter = EnteredOver (setting p o f floats reg) (bodies_of p) (below a p o f floats facts base reg) (covers a p o f floats facts base reg)

  -- ---- classes

  pub firsts_covered : (u : Text) → CoversClass a p o facts u → Each (CoversClass a p o facts) (initialised_first p u)
  firsts_covered u (v, needed, init) = each_of (CoversClass a p o facts) (initialised_first p u) (λ q c. (v, needed, first_last p v u q init c))

  pub initialiser_covered : (w : World) (cs : Classes) (u : Text) (k : MethodKey) → CoversClass a p o facts u → initialiser_of p u ≡ Some k → Enter w cs k [] (bodies_of p k)
  initialiser_covered w cs u k (v, needed, init) e = by (bodies_of p k) refl
    where
      by : (b : Option NamedBody) → bodies_of p k ≡ b → Enter w cs k [] b
      by None i = tt
      by (Some b) i = λ long t. entry_top a p o f floats facts base reg w k [] b i (base.closed.entries.initialisers v u k needed init e) (λ i v e. none_some v e) long t.0.0

  -- ---- entries

  open_passes : (w : World) (k : MethodKey) (vs : List Value) → ((i : ℕ) → a.below a.any (facts.parameters k i)) → Each IsRanged vs → Passes a p o f floats facts base reg w k vs
  open_passes w k vs any ranged i v e = base.sound.grows a.any (facts.parameters k i) (kind_of w v) v (any i) (base.sound.all (kind_of w v) v (each_get IsRanged vs i v ranged e))

  opened : (w : World) (cs : Classes) (k : MethodKey) (vs : List Value) → (IsEntered a facts k × ((i : ℕ) → a.below a.any (facts.parameters k i))) → Enter w cs k vs (bodies_of p k)
  opened w cs k vs ways = by (bodies_of p k) refl
    where
      by : (b : Option NamedBody) → bodies_of p k ≡ b → Enter w cs k vs b
      by None i = tt
      by (Some b) i = λ long t. entry_top a p o f floats facts base reg w k vs b i ways.0 (open_passes w k vs ways.1 (each_behind IsRanged (replicate (b.registers - b.ins) (Word 0)) vs t.0.1.registers)) long t.0.0

  pub enters_covered : (w : World) (cs : Classes) (c n q : Text) (gs : List Given) (d : Found) → TypedWorld p f w → CoversWorld a p o facts w → declared_in p c n q ≡ Some d → may_enter (face_of p f) o w (gets_all w gs).0 d gs (gets_all w gs).1 ≡ true
      → TypedWorld p f (gets_all w gs).0 × KnownWorld p o (gets_all w gs).0
      → CoversWorld a p o facts (gets_all w gs).0 × (is_static d.flags ≡ true → CoversClass a p o facts d.key.class) × Enter (gets_all w gs).0 cs d.key (spread (gets_all w gs).1) (bodies_of p d.key)
  enters_covered w cs c n q gs d tw cw e l below1 = (covers_over p a o facts w w1 (typed_fields p f w tw) (all_same gs w) cw, class_needed, by (is_static d.flags) refl)
    where
      w1 : World
      w1 = (gets_all w gs).0

      vs : List Value
      vs = (gets_all w gs).1

      is : IsDeclared p o f floats reg finds d
      is = declared p o f floats reg finds c n q d e

      ready : Bool
      ready = d.coded && not (is_class_initialiser d)

      first : ready ≡ true
      first = and_left ready (may_enter_found (face_of p f) o w w1 d gs vs) l

      coded : d.coded ≡ true
      coded = and_left d.coded (not (is_class_initialiser d)) first

      second : may_enter_found (face_of p f) o w w1 d gs vs ≡ true
      second = and_right ready (may_enter_found (face_of p f) o w w1 d gs vs) l

      by_flag : (b : Bool) → is_static d.flags ≡ b → (elim b as (λ b. Bool) [
        | true ↦ o.methods d.key && all_fit (face_of p f) o w w1 gs vs d.key.signature.parameters
        | false ↦ all_fit (face_of p f) o w w1 gs vs (d.key.class ∷ d.key.signature.parameters) && receiver_ok (face_of p f) o w1 d vs
      ]) ≡ true
      by_flag b i = subst (λ b. (elim b as (λ b. Bool) [
        | true ↦ o.methods d.key && all_fit (face_of p f) o w w1 gs vs d.key.signature.parameters
        | false ↦ all_fit (face_of p f) o w w1 gs vs (d.key.class ∷ d.key.signature.parameters) && receiver_ok (face_of p f) o w1 d vs
      ]) ≡ true) i second

      static_entered : is_static d.flags ≡ true → IsEnteredStatic p o d.key
      static_entered i = entered_static p o f floats reg finds d is coded i (untrue (is_class_initialiser d) (and_right d.coded (not (is_class_initialiser d)) first)) (and_left (o.methods d.key) (all_fit (face_of p f) o w w1 gs vs d.key.signature.parameters) (by_flag true i))

      class_needed : is_static d.flags ≡ true → CoversClass a p o facts d.key.class
      class_needed i = (d.key.class, Enters d.key (static_entered i), Itself d.key.class)

      class_defined : defines p d.key.class ≡ true
      class_defined = ap (λ (d : Found). defines p d.key.class) (sym is.is) ∙ defined_by p is.class.name (Some is.class) (reg.regular.named is.class is.class_in)

      on : (us : List Value) → receiver_ok (face_of p f) o w1 d us ≡ true → is_static d.flags ≡ false → IsEnteredOn p o d.key
      on [] i s = absurd (true≢false (sym i))
      on (v ∷ us) i s = let under = and_right (not (is_null v)) (is_under p f (kind_of w1 v) d.key.class) (and_left (is_on (face_of p f) w1 v d.key.class) (may_reach (face_of p f) o (kind_of w1 v) d) i) in
          base.reaches.entered c n q (kind_of w1 v) d e (defined_under p o f floats reg finds w1 below1.0 v d.key.class under class_defined) (made_under p o f floats reg finds w1 below1.0 below1.1 v d.key.class under class_defined) under (and_right (is_on (face_of p f) w1 v d.key.class) (may_reach (face_of p f) o (kind_of w1 v) d) i) coded s

      by : (b : Bool) → is_static d.flags ≡ b → Enter w1 cs d.key (spread vs) (bodies_of p d.key)
      by true i = let op = base.closed.entries.statics d.key (static_entered i) in opened w1 cs d.key (spread vs) (op.entered, op.parameters)
      by false i = let op = base.closed.entries.methods d.key (on vs (and_right (all_fit (face_of p f) o w w1 gs vs (d.key.class ∷ d.key.signature.parameters)) (receiver_ok (face_of p f) o w1 d vs) (by_flag false i)) i) in opened w1 cs d.key (spread vs) (op.entered, op.parameters)

  pub makes_covered : (w : World) (u : Text) → TypedWorld p f w → CoversWorld a p o facts w → may_make (face_of p f) o u ≡ true → CoversClass a p o facts u × CoversWorld a p o facts (show (with_thing w (fresh u)) u (next_object w)).0
  makes_covered w u tw cw l = let w1 = with_thing w (fresh u) in let w2 = (show w1 u (next_object w)).0 in
      ((u, Makes u (base.makes u l), Itself u), covers_over p a o facts w w2 (typed_fields p f w tw) (same_then w w1 w2 (same_with w (fresh u) (λ k. refl)) (same_show w1 u (next_object w))) cw)

  -- ---- fields and items that are written

  pub field_covered : (w w2 : World) (cs : Classes) (k : FieldKey) (d : NamedField) (on : Option Value) (v : Value) → SameFields w w2 → TypedWorld p f w → CoversWorld a p o facts w → defined_field p k ≡ Some d → o.fields k ≡ true → IsThere w2 v → IsRanged v
      → WrittenOver (setting p o f floats reg) (bodies_of p) (below a p o f floats facts base reg) (covers a p o f floats facts base reg) cs (with_field w2 k on v)
  field_covered w w2 cs k d on v s tw cw e kept there ranged = by on
    where
      fields : FieldsThere w2
      fields = fields_over w w2 s (typed_fields p f w tw)

      cw2 : CoversWorld a p o facts w2
      cw2 = covers_over p a o facts w w2 (typed_fields p f w tw) s cw

      seen : S (facts.fields k) w2 v
      seen = base.sound.grows a.any (facts.fields k) (kind_of w2 v) v (base.closed.fields.opened k d e kept) (base.sound.all (kind_of w2 v) v ranged)

      W : Option World → Type 0
      W = WrittenOver (setting p o f floats reg) (bodies_of p) (below a p o f floats facts base reg) (covers a p o f floats facts base reg) cs

      at : (z : Value) (y : Option Thing) → thing_at w2 z ≡ y → W (with_instance w2 k z v y)
      at z None i = tt
      at z (Some (Items kind vs)) i = tt
      at z (Some (Instance c fs)) i = λ u. covers_instance a p o f floats facts base reg w2 k z v c fs i fields cw2 there seen

      by : (on : Option Value) → W (with_field w2 k on v)
      by None = λ u. covers_static a p o f floats facts base reg w2 k v fields cw2 there seen
      by (Some z) = at z (thing_at w2 z) refl

  pub item_covered : (w : World) (cs : Classes) (g : Given) (on : Value) (n : ℕ) (kind : Text) (vs : List Value) → TypedWorld p f w → CoversWorld a p o facts w → thing_at w on ≡ Some (Items kind vs)
      → WrittenOver (setting p o f floats reg) (bodies_of p) (below a p o f floats facts base reg) (covers a p o f floats facts base reg) cs (with_item (gets w g).0 on kind vs n (gets w g).1)
  item_covered w cs g on n kind vs tw cw e = by (nat_lt n (length vs))
    where
      w1 : World
      w1 = (gets w g).0

      new : Thing
      new = Items kind (slice_set vs n (stored (item_of_type kind) (gets w g).1))

      by : (b : Bool) → WrittenOver (setting p o f floats reg) (bodies_of p) (below a p o f floats facts base reg) (covers a p o f floats facts base reg) cs (elim b as (λ b. Option World) [ true ↦ Some (put_thing w1 on new) | false ↦ None ])
      by true = λ u. covers_over p a o facts w (put_thing w1 on new) (typed_fields p f w tw) (same_then w w1 (put_thing w1 on new) (gets_same w g) (same_put_over w w1 on (Items kind vs) new (gets_grow w g) e refl tt)) cw
      by false = tt
