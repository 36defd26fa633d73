-- The verifier's least typing of a method is the least one by names.
use Rattle.std.proofs.Common.{◌≡◌, ℕ, suc, ◌+◌, ◌<◌, ◌≤◌, Bool, true, false, true≢false, nat_eq, List, [], ◌∷◌, map, length, Option, Some, None, refl, sym, ap, ◌∙◌, subst, arith}
use Rattle.std.specs.Prelude.{slice_get, option_and_then, if◌then◌else◌}
use Rattle.std.specs.Option.{option_map}
use Rattle.std.proofs.lemmas.Option.{slice_get_past}
use Rattle.lemmas.proofs.Lists.{map_long}
use Rattle.class_defs.proofs.Positions.{both}
use Rattle.hierarchy.specs.Shapes.{IsResolved}
use Rattle.hierarchy.specs.declared.build.Hierarchy.{Hierarchy}
use Rattle.program_model.specs.ProgramRules.{is_well_formed}
use Rattle.program_model.specs.Lookups.{method_at}
use Rattle.program_model.specs.declared.body.Body.{Body}
use Rattle.program_model.specs.declared.program.Class.{Class}
use Rattle.program_model.specs.declared.program.Method.{Method}
use Rattle.program_model.specs.declared.program.MethodAt.{MethodAt}
use Rattle.program_model.specs.declared.program.Program.{Program}
use Rattle.dalvik_defs.specs.Names.{Text}
use Rattle.dalvik_defs.specs.Naming.{text_at, type_at, body_of, named_class, named_method, named}
use Rattle.dalvik_defs.specs.declared.program.NamedProgram.{NamedProgram}
use Rattle.pass_defs.specs.Kinds as name
use Rattle.pass_defs.specs.Kinds.{Kind, Zero, Class as ClassKind, Array, Fresh, is_below}
use Rattle.pass_defs.specs.Registers as by_name
use Rattle.pass_defs.specs.Typed as typed
use Rattle.verify.specs.declared.kinds.Kind as number
use Rattle.verify.specs.declared.kinds.Kind.TheVariants as kind
use Rattle.verify.specs.declared.setting.Setting.{Setting}
use Rattle.verify.specs.declared.shapes.Shape.{Shape}
use Rattle.verify.specs.declared.shapes.Shape.TheVariants as shape
use Rattle.verify.specs.declared.tables.Tables.{Tables}
use Rattle.verify.specs.declared.typed.Verifier.{Verifier}
use Rattle.verify.specs.Entry.{begun}
use Rattle.verify.specs.Flow.{place_at}
use Rattle.verify.specs.Frames.{Kinds, kind_at}
use Rattle.verify.specs.Kinds as kinds
use Rattle.verify.specs.Kinds.{is_null}
use Rattle.verify.specs.Methods.{constructs, receiver_of, IsFor, HasTyping, TypesFor}
use Rattle.verify.specs.Names.{parameters_of}
use Rattle.verify.specs.Supers.{Finds}
use Rattle.verify.specs.Types.{shape_of, kind_of, kind_of_shape, kind_of_class}
use Rattle.verify.specs.Typings.{Below, IsBelow, AtMost, Table, IsUnder, IsLeastTyping}
use Rattle.verify.proofs.Lattice.{joins, alike, numbers, objects, apart}
use Rattle.verify.proofs.Orders.{Under, itself, unknown, word, empty, any, classes, items, deep, under, bare_below}
use Rattle.verify.proofs.Raises.{below_itself, below_on}
use Rattle.verify.proofs.Ranks.{lattice_of}
use Rattle.verify.proofs.Throws.{below_undefined}
use Rattle.type_bridge.specs.Views.{kind_named, receiver_named, kinds_named, table_named, method_table}
use Rattle.type_bridge.proofs.After.{own_is, own_made}
use Rattle.type_bridge.proofs.Back.{or_null, type_or, numbered, Sense, known, no_class, no_array, no_type, sense, type_is}
use Rattle.type_bridge.proofs.BackFits.{named_back, type_numbered}
use Rattle.type_bridge.proofs.BackFrames.{kinds_numbered, at_back}
use Rattle.type_bridge.proofs.BackTypings.{kept_if, kept, table_numbered, typing_numbered, place_map}
use Rattle.type_bridge.proofs.Bodies.{IsCode}
use Rattle.type_bridge.proofs.Frames.{at_named, all_at, close}
use Rattle.type_bridge.proofs.Grounds.{IsSet}
use Rattle.type_bridge.proofs.Judged.{typing_named, state_is}
use Rattle.type_bridge.proofs.Numbers.{type_named}
use Rattle.type_bridge.proofs.Order.{zero_below, null_below, itself_below, below_named}
use Rattle.type_bridge.proofs.Programs.{program, ground, body, found, entry_same}
use Rattle.type_bridge.proofs.Receivers.{Holds, this, over, least_holds}
use Rattle.type_bridge.proofs.Told.{Told}

-- ---- lists

-- as many positions, each at or below the other one's
pub tables_at : (q : NamedProgram) (xs ys : typed.Table) → length xs ≡ length ys → ((n : ℕ) → by_name.state_below q (typed.state_at xs n) (typed.state_at ys n) ≡ true) → by_name.tables_below q xs ys ≡ true
tables_at q [] [] e h = refl
tables_at q [] (y ∷ ys) e h = absurd (omega (arith, e))
tables_at q (x ∷ xs) [] e h = absurd (omega (arith, e))
tables_at q (x ∷ xs) (y ∷ ys) e h = both (by_name.state_below q x y) (by_name.tables_below q xs ys) (h 0) (tables_at q xs ys (omega (arith, e)) (λ n. h (suc n)))

no_length : {A : Type 0} (xs : List A) → length xs ≡ 0 → xs ≡ []
no_length [] e = refl
no_length (x ∷ xs) e = absurd (omega (arith, e))

-- ---- kinds

module _ (p : Program) (t : Tables) (d : Told p t) where
  null_only : (a : number.Kind) → Below t a kind.Null → is_null a ≡ true
  null_only a h = by (under t a kind.Null h)
    where
      by : Under t a kind.Null → is_null a ≡ true
      by (itself e) = ap is_null e
      by (unknown e) = absurd (cc)
      by (word n e) = absurd (cc)
      by (empty n m) = n
      by (any m e) = absurd (cc)
      by (classes c l e f n) = absurd (cc)
      by (items m i j c z e f n g) = absurd (cc)
      by (deep m i z f e g) = absurd (cc)

  null_named : (a : number.Kind) (z : Kind) → is_null a ≡ true → name.is_initialised z ≡ true → (z ≡ Zero → ⊥) → is_below (named p) (kind_named p a) z ≡ true
  null_named kind.Zero z e m n = zero_below (named p) z m
  null_named kind.Null z e m n = null_below (named p) z m n
  null_named a z e m n = absurd (true≢false (sym e))

  past_text : (k : ℕ) → length p.types ≤ k → type_at p k ≡ []
  past_text k h = ap (λ o. elim o as (λ o. Text) [ Some n ↦ text_at p n | None ↦ [] ]) (slice_get_past p.types k h)

  -- a number that no type has stands for no name but the empty one
  no_name : (u : Text) (n : ℕ) → Below t (kind.Fresh (length p.types + length u) n) (numbered p (kind_named p (kind.Fresh (length p.types + length u) n))) → kind_named p (kind.Fresh (length p.types + length u) n) ≡ Fresh u n
  no_name u n h = by (type_named p []) refl
      (bare_below t (kind.Fresh (length p.types + length u) n) (numbered p (Fresh [] n)) (subst (λ v. Below t (kind.Fresh (length p.types + length u) n) (numbered p (Fresh v n))) none h) refl refl refl)
    where
      none : type_at p (length p.types + length u) ≡ []
      none = past_text (length p.types + length u) (omega arith)

      by : (o : Option ℕ) → type_named p [] ≡ o → kind.Fresh (length p.types + length u) n ≡ kind.Fresh (type_or p [] (type_named p [])) n → kind_named p (kind.Fresh (length p.types + length u) n) ≡ Fresh u n
      by None e f =
          let g : kind.Fresh (length p.types + length u) n ≡ kind.Fresh (length p.types + 0) n = f ∙ ap (λ o. kind.Fresh (type_or p [] o) n) e in
          let same : length p.types + length u ≡ length p.types + 0 = cc in
          ap (λ v. Fresh v n) (none ∙ sym (no_length u (omega (arith, same))))
      by (Some k) e f =
          let g : kind.Fresh (length p.types + length u) n ≡ kind.Fresh k n = f ∙ ap (λ o. kind.Fresh (type_or p [] o) n) e in
          let same : length p.types + length u ≡ k = cc in
          let small : k < length p.types = (type_is p t d [] k e).0 in
          absurd (omega (arith, same, small))

  -- A kind at or below the number of one by name is so by name, if it is at or below the number of its own name too.
  pub under_name : (a : number.Kind) (z : Kind) → Below t a (numbered p (kind_named p a)) → Below t a (numbered p z) → is_below (named p) (kind_named p a) z ≡ true
  under_name a z own h = by (sense p t d z)
    where
      by : Sense p z → is_below (named p) (kind_named p a) z ≡ true
      by (known y e n g) = subst (λ z. is_below (named p) (kind_named p a) z ≡ true) n (below_named p t d a y (subst (Below t a) g h))
      by (no_class u k e) = subst (λ z. is_below (named p) (kind_named p a) z ≡ true) (sym k)
          (null_named a (ClassKind u) (null_only a (subst (Below t a) (ap (numbered p) k ∙ ap (λ o. or_null (option_map kind.Program o)) e) h)) refl (λ f. cc))
      by (no_array u k e) = subst (λ z. is_below (named p) (kind_named p a) z ≡ true) (sym k)
          (null_named a (Array u) (null_only a (subst (Below t a) (ap (numbered p) k ∙ ap or_null e) h)) refl (λ f. cc))
      by (no_type u n k e) =
          let here : a ≡ kind.Fresh (length p.types + length u) n = bare_below t a (kind.Fresh (length p.types + length u) n) (subst (Below t a) (ap (numbered p) k ∙ ap (λ o. kind.Fresh (type_or p u o) n) e) h) refl refl refl in
          let same : kind_named p a ≡ Fresh u n = subst (λ a. Below t a (numbered p (kind_named p a)) → kind_named p a ≡ Fresh u n) (sym here) (no_name u n) own in
          subst (λ z. is_below (named p) (kind_named p a) z ≡ true) (same ∙ sym k) (itself_below (named p) (kind_named p a))

  numbered_under : (a : number.Kind) (z : Kind) → numbered p (kind_named p a) ≡ a → Below t a (numbered p z) → is_below (named p) (kind_named p a) z ≡ true
  numbered_under a z e h = under_name a z (subst (Below t a) (sym e) (below_itself t a)) h

-- ---- positions

module _ (s : Setting) (c : Class) (m : Method) (i : IsSet s c m) where
  abbrev p : Program
  p = s.program.now

  abbrev t : Tables
  t = s.tables.now

  abbrev own : name.Kind
  own = name.kind_of (named p) (type_at p c.name)

  abbrev class : number.Kind
  class = kind_of t s.kind

  no_zero : (x : Shape) → kinds.is_number (kind_of_shape x) ≡ true → kinds.is_initialised (kind_of_shape x) ≡ true → ⊥
  no_zero shape.Void e f = true≢false (sym e)
  no_zero shape.Int e f = true≢false (sym f)
  no_zero (shape.Word w) e f = true≢false (sym f)
  no_zero shape.Wide e f = true≢false (sym e)
  no_zero (shape.Class o b) e f = by o b e
    where
      by : (o : Option ℕ) (b : Bool) → kinds.is_number (kind_of_class o b) ≡ true → ⊥
      by None b e = true≢false (sym e)
      by (Some k) true e = true≢false (sym e)
      by (Some k) false e = true≢false (sym e)
  no_zero (shape.Array n j) e f = true≢false (sym e)

  module _ (good : kinds.is_initialised class ≡ true) where
    -- what isn't an object is above an object only if it is undefined
    undefined_only : (k : number.Kind) → Below t class k → kinds.is_initialised k ≡ false → k ≡ kind.Undefined
    undefined_only k h f = elim (joins t class k) [
      | alike e j ↦ absurd (true≢false (sym good ∙ ap kinds.is_initialised e ∙ f))
      | numbers e n g j ↦ absurd (no_zero (shape_of t s.kind) n good)
      | objects e n g j o ↦ absurd (true≢false (sym g ∙ f))
      | apart e n g j ↦ sym h ∙ j
    ]

    receiver_over : (k : number.Kind) (z : Kind) → Below t class k → Below t k (numbered p z) → is_below (named p) own z ≡ true → is_below (named p) (receiver_named own k) z ≡ true
    receiver_over kind.FreshThis z e h g = numbered_under p t i.told kind.FreshThis z refl h
    receiver_over (kind.Fresh x n) z e h g = g
    receiver_over k z e h g = by (kinds.is_initialised k) refl
      where
        by : (b : Bool) → kinds.is_initialised k ≡ b → is_below (named p) (if b then own else name.Undefined) z ≡ true
        by true f = g
        by false f = numbered_under p t i.told kind.Undefined z refl (subst (λ k. Below t k (numbered p z)) (undefined_only k e f) h)

    receiver_under : own ≡ kind_named p class → (k : number.Kind) (z : Kind) → Holds t class k → Below t k (numbered p z) → is_below (named p) (receiver_named own k) z ≡ true
    receiver_under is k z (this e) h = subst (λ k. is_below (named p) (receiver_named own k) z ≡ true) (sym e) (numbered_under p t i.told kind.FreshThis z refl (subst (λ k. Below t k (numbered p z)) e h))
    receiver_under is k z (over e) h = receiver_over k z e h
        (subst (λ k. is_below (named p) k z ≡ true) (sym is)
        (numbered_under p t i.told class z (named_back p t i.told class (type_numbered p t i.told s.kind)) (below_on t (lattice_of t i.told.meets) class k (numbered p z) e h)))

  -- kinds at or below those by name are so by name
  frame_under : (a : Kinds) (z : by_name.Kinds) → IsBelow t a (kinds_numbered p (kinds_named p own a)) → IsBelow t a (kinds_numbered p z) → Holds t class a.receiver → by_name.kinds_below (named p) (kinds_named p own a) z ≡ true
  frame_under a z w l e = close (named p) (kinds_named p own a) z
      (all_at (named p) (map (kind_named p) a.registers) z.registers (map_long (kind_named p) a.registers ∙ l.long ∙ map_long (numbered p) z.registers) register)
      (under_name p t i.told a.result z.result w.result l.result)
      (under_name p t i.told a.caught z.caught w.caught l.caught)
      (receiver_under (own_made s c m i 0 a) (own_is s c m i 0 a) a.receiver z.receiver e l.receiver)
    where
      register : (r : ℕ) → is_below (named p) (by_name.kind_at (map (kind_named p) a.registers) r) (by_name.kind_at z.registers r) ≡ true
      register r = ap (λ k. is_below (named p) k (by_name.kind_at z.registers r)) (at_named p a.registers r)
          ∙ under_name p t i.told (kind_at a.registers r) (by_name.kind_at z.registers r)
          (subst (Below t (kind_at a.registers r)) (at_back p (map (kind_named p) a.registers) r ∙ ap (numbered p) (at_named p a.registers r)) (w.registers r))
          (subst (Below t (kind_at a.registers r)) (at_back p z.registers r) (l.registers r))

  -- ---- tables

  -- kinds by name whose numbers are above these
  record IsOver (o : Option by_name.Kinds) (a : Kinds) : Type 0 where
    pub frame : by_name.Kinds
    pub is : o ≡ Some frame
    pub below : IsBelow t a (kinds_numbered p frame)

  over_of : (w : ℕ) (o : Option by_name.Kinds) (a : Kinds) → AtMost t (Some a) (kept p w o) → IsOver o a
  over_of w None a l = absurd l
  over_of w (Some z) a l = by (nat_eq (length z.registers) w) l
    where
      by : (g : Bool) → AtMost t (Some a) (kept_if p g z) → IsOver (Some z) a
      by true l = record { frame = z; is = refl; below = l }
      by false l = absurd l

  module _ (b : Body) (code : IsCode p m b) (finds : Finds p s.class b.insns s.found.now) (x : Table) where
    abbrev entry : Kinds
    entry = begun s b (receiver_of c s.class m (constructs t m)) (parameters_of p m.name)

    abbrev IsNamed : typed.Table → Type 0
    IsNamed u = typed.IsTyping (named p) (named_class p c) (named_method p m) (body_of p b) u

    abbrev here : typed.Table
    here = table_named p own x

    pub begins : Holds t class entry.receiver
    begins = by s.constructs
      where
        by : (g : Bool) → Holds t class (if g then kind.FreshThis else kind.Undefined)
        by true = this refl
        by false = over (below_undefined t (lattice_of t i.told.meets) class)

    -- Tables by name of which this one is one, where its numbers are under those of each.
    module _ (Is : typed.Table → Type 0) (here_is : Is here) (below_each : (u : typed.Table) → Is u → IsUnder t x (table_numbered s c m i b code finds u)) where
      over_at : (u : typed.Table) → Is u → (n : ℕ) (a : Kinds) → place_at x n ≡ Some a → IsOver (typed.state_at u n) a
      over_at u y n a e =
          over_of b.registers (typed.state_at u n) a
          (subst (λ o. AtMost t o (kept p b.registers (typed.state_at u n))) e (subst (AtMost t (place_at x n)) (place_map (kept p b.registers) refl u n) (below_each u y n)))

      -- the number of the name
      pub round : (n : ℕ) (a : Kinds) → place_at x n ≡ Some a → IsBelow t a (kinds_numbered p (kinds_named p own a))
      round n a e =
          let r = over_at here here_is n a e in
          let f : Some (kinds_named p own a) ≡ Some r.frame = sym (state_is p own x n ∙ ap (option_map (kinds_named p own)) e) ∙ r.is in
          let g : kinds_named p own a ≡ r.frame = cc in
          subst (λ k. IsBelow t a (kinds_numbered p k)) (sym g) r.below

      pub state_under : ((n : ℕ) (a : Kinds) → place_at x n ≡ Some a → Holds t class a.receiver) → (u : typed.Table) → Is u → (n : ℕ) → by_name.state_below (named p) (typed.state_at here n) (typed.state_at u n) ≡ true
      state_under held u y n = ap (λ o. by_name.state_below (named p) o (typed.state_at u n)) (state_is p own x n) ∙ by (place_at x n) refl
        where
          by : (o : Option Kinds) → place_at x n ≡ o → by_name.state_below (named p) (option_map (kinds_named p own) o) (typed.state_at u n) ≡ true
          by None e = refl
          by (Some a) e =
              let r = over_at u y n a e in
              ap (by_name.state_below (named p) (Some (kinds_named p own a))) r.is
              ∙ frame_under a r.frame (round n a e) r.below (held n a e)

    module _ (h : IsLeastTyping s b entry x) where
      here_named : IsNamed here
      here_named = typing_named s c m i b code finds x h.typing

      below_typing : (u : typed.Table) → IsNamed u → IsUnder t x (table_numbered s c m i b code finds u)
      below_typing u y = h.least (table_numbered s c m i b code finds u) (typing_numbered s c m i b code finds u y)

      pub least_named : typed.IsLeastTyping (named p) (named_class p c) (named_method p m) (body_of p b) here
      least_named = record {
        typing = here_named;
        least = λ u y. tables_at (named p) here u (here_named.long ∙ sym y.long) (state_under IsNamed here_named below_typing (least_holds s i.told.meets b entry begins x h) u y);
      }

-- ---- methods

module _ (p : Program) (h : Hierarchy) (w : is_well_formed p ≡ true) (r : IsResolved p h) (v : Verifier) (f : IsFor p h v) where
  least_here : (c : Class) (k : ℕ) (m : Method) (j : ℕ) (b : Body) → slice_get p.classes k ≡ Some c → slice_get c.methods j ≡ Some m → m.body ≡ Some b → (x : Table) → HasTyping v c k m b x
      → typed.IsLeastTyping (named p) (named_class p c) (named_method p m) (body_of p b) (method_table p c x)
  least_here c k m j b is_class is_method has x o =
      let s = o.setting in
      let g = ground p h w r v f c k m j b is_class is_method has s o.is in
      let y = body p h w r v f c k m j b is_class is_method has s o.is in
      let z = found p h w r v f c k m j b is_class is_method has s o.is o.finds in
      subst (λ q. typed.IsLeastTyping (named q) (named_class q c) (named_method q m) (body_of q b) (method_table q c x)) (program p h w r v f c k m j b is_class is_method has s o.is)
      (least_named s c m g b y z x (subst (λ k. IsLeastTyping s b k x) (entry_same p h w r v f c k m j b is_class is_method has s o.is) o.least))

pub least_method : (p : Program) (h : Hierarchy) → is_well_formed p ≡ true → IsResolved p h → (at : MethodAt) (x : Table) → TypesFor p h at x → (c : Class) (m : Method) (b : Body) → slice_get p.classes at.class ≡ Some c
    → method_at p at ≡ Some m → m.body ≡ Some b → typed.IsLeastTyping (named p) (named_class p c) (named_method p m) (body_of p b) (method_table p c x)
least_method p h w r at x o c m b e g i =
    least_here p h w r o.verifier o.is c at.class m at.place b e (sym (ap (option_and_then (λ c. slice_get c.methods at.place)) e) ∙ g) i x
    (o.types c m (ap (λ z. slice_get z.classes at.class) o.is.program ∙ e) (ap (λ z. method_at z at) o.is.program ∙ g) b i)
