-- A body that is folded by facts and kinds has a typing.
use Rattle.std.proofs.Common.{◌≡◌, ◌⊎◌, inl, inr, ℕ, zero, suc, ◌+◌, ℤ, Bool, true, false, true≢false, List, [], ◌∷◌, length, Option, Some, None, refl, sym, ap, ◌∙◌, subst, arith}
use Rattle.std.specs.Prelude.{◌&&◌, ◌==◌, is_some, map, slice_get, option_and_then, Contains}
use Rattle.std.specs.Int.{w32, cast_unsigned}
use Rattle.std.specs.List.{list_all}
use Rattle.std.specs.Option.{option_map}
use Rattle.lemmas.proofs.Bools.{and_left, and_right, clash}
use Rattle.lemmas.proofs.Lists.{get_map, got_map, got_short, map_long}
use Rattle.lemmas.proofs.Numbers.{next_is}
use Rattle.lemmas.proofs.Options.{before_map, none_some, some_same}
use Rattle.insn_set.specs.Widths.{is_wide_slot}
use Rattle.insn_set.specs.declared.ops.InvokeKind.{InvokeKind}
use Rattle.insn_set.specs.declared.ops.Slot.{Slot}
use Rattle.insn_set.specs.declared.ops.Slot.TheVariants as slot
use Rattle.insn_set.specs.declared.form.Insn.{Insn}
use Rattle.insn_set.specs.declared.form.Insn.TheVariants as insn
use Rattle.program_model.specs.ProgramRules.{is_well_formed}
use Rattle.program_model.specs.declared.body.Body.{Body}
use Rattle.program_model.specs.declared.program.Class.{Class}
use Rattle.program_model.specs.declared.program.Method.{Method}
use Rattle.program_model.specs.declared.program.MethodAt.{MethodAt}
use Rattle.program_model.specs.declared.program.Program.{Program}
use Rattle.hierarchy.specs.Shapes.{IsResolved}
use Rattle.hierarchy.specs.declared.build.Hierarchy.{Hierarchy}
use Rattle.dalvik_defs.specs.Names.{Text}
use Rattle.dalvik_defs.specs.Naming as naming
use Rattle.dalvik_defs.specs.Naming.{body_of, form_of, named, named_class, named_method, region_of, type_at}
use Rattle.dalvik_defs.specs.declared.forms.Form.{Form}
use Rattle.dalvik_defs.specs.declared.forms.Form.TheVariants as form
use Rattle.dalvik_defs.specs.declared.program.NamedBody.{NamedBody}
use Rattle.dalvik_defs.specs.declared.program.NamedClass.{NamedClass}
use Rattle.dalvik_defs.specs.declared.program.NamedMethod.{NamedMethod}
use Rattle.dalvik_defs.specs.declared.program.NamedProgram.{NamedProgram}
use Rattle.pass_defs.specs.Demands.{is_allowed, result_fits}
use Rattle.pass_defs.specs.Kinds as name
use Rattle.pass_defs.specs.Kinds.{Kind, is_below, is_number, is_initialised, kind_of}
use Rattle.pass_defs.specs.Quiet.{takes_result}
use Rattle.pass_defs.specs.Registers.{Kinds, all_below, kinds_below, state_below, kind_at}
use Rattle.pass_defs.specs.Typed.{arrives, at_state, called, catches, constant_kind, edges, is_wrong, state_at, Table, IsTyped, IsTyping}
use Rattle.pass_defs.specs.Walks.{form_at}
use Rattle.program_laws.specs.Results.{TakesInPlace}
use Rattle.form_laws.proofs.Typings.{allowed_at, each_at, right_at, tested}
use Rattle.std.specs.Int.RustNames.{FitsSigned}
use Rattle.premises.specs.Numbers.{HasWords}
use Rattle.form_laws.specs.Typed.{has_front, IsLowered, IsOrdered, Lowers, taken_table}
use Rattle.form_laws.proofs.TypedFolding.{lowered_typing}
use Rattle.facts.specs.Lent.{frame_at}
use Rattle.facts.specs.declared.facts.Facts.{Facts}
use Rattle.verify.specs.Flow.{place_at}
use Rattle.verify.specs.Frames as frames
use Rattle.verify.specs.Typings as typings
use Rattle.verify.specs.Typings.{kind_before}
use Rattle.type_bridge.specs.Views.{kind_named, kinds_named, method_table}
use Rattle.type_bridge.proofs.Frames.{at_named}
use Rattle.type_bridge.proofs.Judged.{state_is}
use Rattle.type_bridge.proofs.Least.{least_method}
use Rattle.const_prop.specs.declared.numbers.Number.{Number}
use Rattle.const_prop.specs.declared.numbers.Number.TheVariants as value
use Rattle.const_prop.specs.Allowed.{insn_before, Branch, Constant, IsAllowed, IsFoldOf}
use Rattle.const_prop.specs.Constants.{number_written, IsConstantFor}
use Rattle.const_prop.specs.Folds.{IsJudged}
use Rattle.const_prop.specs.Given.{given}
use Rattle.const_prop.specs.Kinds.{fits, in_kind, in_result, is_narrow_move, is_typed_so, letter, in_type, move_fits, typing_fits}
use Rattle.const_prop.specs.Known.{way_by}
use Rattle.facts_kept.specs.TypedFolds.{IsFoldedSo}
use Rattle.facts_kept.proofs.Beneath.{initialised_under, known_above, type_not_zero, type_of_objects, word_above, zero_initialised, zero_kind, zero_number}
use Rattle.facts_kept.proofs.Letters.{letter_same, null_letter}
use Rattle.facts_kept.proofs.Lowered.{branch_lowers, constant_lowers, left_kind, Suits}

-- ---- lists

pub contains_at : {A : Type 0} (xs : List A) (n : ℕ) (x : A) → slice_get xs n ≡ Some x → Contains xs x
contains_at [] n x e = none_some x e
contains_at (y ∷ xs) zero x e = (0, omega arith, some_same y x e)
contains_at (y ∷ xs) (suc n) x e = let h : Contains xs x = contains_at xs n x e in (suc h.0, omega (arith, h.1), h.2)

got_state : (t : typings.Table) (n : ℕ) (a : frames.Kinds) → place_at t n ≡ Some a → slice_get t n ≡ Some (Some a)
got_state [] n a e = none_some a e
got_state (o ∷ t) zero a e = ap Some e
got_state (o ∷ t) (suc n) a e = got_state t n a e

same_long : {A : Type 0} (xs ys : List A) → ((n : ℕ) → slice_get xs n ≡ None → slice_get ys n ≡ None) → ((n : ℕ) (x : A) → slice_get xs n ≡ Some x → (y : A) × (slice_get ys n ≡ Some y)) → length ys ≡ length xs
same_long [] [] ends there = refl
same_long [] (y ∷ ys) ends there = absurd (none_some y (sym (ends 0 refl)))
same_long (x ∷ xs) [] ends there = let r = there 0 x refl in none_some r.0 r.1
same_long (x ∷ xs) (y ∷ ys) ends there = ap suc (same_long xs ys (λ n. ends (suc n)) (λ n. there (suc n)))

module _ (p : Program) (h : Hierarchy) (w : is_well_formed p ≡ true) (r : IsResolved p h) (ordered : IsOrdered (named p)) (typed : IsTyped (named p)) (facts : Facts) (at : MethodAt) (c : Class) (m : Method) (b d : Body)
    (is_class : slice_get p.classes at.class ≡ Some c) (is_method : slice_get c.methods at.place ≡ Some m) (has : m.body ≡ Some b) (places : TakesInPlace (body_of p b))
    (table : Option typings.Table) (asks : Bool) (judged : asks ≡ true → IsJudged p h at table) (folded : IsFoldedSo p facts table asks at.class m.name b d)
    (words : (n : ℕ) (g : Insn) → slice_get d.insns n ≡ Some g → HasWords g) where
  abbrev q : NamedProgram
  q = named p

  abbrev nc : NamedClass
  nc = named_class p c

  abbrev nm : NamedMethod
  nm = named_method p m

  abbrev nb : NamedBody
  nb = body_of p b

  abbrev nd : NamedBody
  nd = body_of p d

  -- ---- a typing, which is the least one where it is asked

  record HasTable : Type 0 where
    table_named : Table
    typing : IsTyping q nc nm nb table_named
    asked : (x : typings.Table) → table ≡ Some x → asks ≡ true → table_named ≡ method_table p c x

  some_typing : (t : Table) × IsTyping q nc nm nb t
  some_typing = typed.bodies nc nm nb (contains_at q.classes at.class nc (got_map (named_class p) p.classes at.class c is_class)) (contains_at nc.methods at.place nm (got_map (named_method p) c.methods at.place m is_method))
      (ap (option_map (body_of p)) has)

  has_table : HasTable
  has_table = by asks table refl refl judged
    where
      by : (v : Bool) (o : Option typings.Table) → asks ≡ v → table ≡ o → (v ≡ true → IsJudged p h at o) → HasTable
      by true (Some x) i j k = record {
        table_named = method_table p c x;
        typing = (least_method p h w r at x (k refl) c m b is_class (ap (option_and_then (λ c. slice_get c.methods at.place)) is_class ∙ is_method) has).typing;
        asked = λ y e f. ap (method_table p c) (some_same x y (sym j ∙ e));
      }
      by true None i j k = record { table_named = some_typing.0; typing = some_typing.1; asked = λ y e f. none_some y (sym j ∙ e) }
      by false o i j k = record { table_named = some_typing.0; typing = some_typing.1; asked = λ y e f. clash asks f i }

  abbrev t : Table
  t = has_table.table_named

  typing : IsTyping q nc nm nb t
  typing = has_table.typing

  -- ---- one position

  module _ (n : ℕ) (a : Kinds) (s : state_at t n ≡ Some a) where
    -- what is moved, by the least typing
    known_kind : (z : ℤ) → FitsSigned w32 z → (x : typings.Table) → t ≡ method_table p c x → (from : ℕ) → in_kind (kind_before x n from) (value.Word (cast_unsigned w32 z)) ≡ true → is_below q (constant_kind z) (kind_at a.registers from) ≡ true
    known_kind z small x same from e =
        let made = kind_of q (type_at p c.name) in
        let k = before_map (kinds_named p made) (place_at x n) a (sym (state_is p made x n) ∙ ap (λ t. state_at t n) (sym same) ∙ s) in
        let is : kind_at a.registers from ≡ kind_named p (frames.kind_at k.0.registers from) = ap (λ (a : Kinds). kind_at a.registers from) (sym k.1.1) ∙ at_named p k.0.registers from in
        subst (λ l. is_below q (constant_kind z) l ≡ true) (sym is)
        (known_above p q z (frames.kind_at k.0.registers from) small (subst (λ o. in_kind (typings.kind_in o from) (value.Word (cast_unsigned w32 z)) ≡ true) (got_state x n k.0 k.1.0) e))

    typing_asked : (z : ℤ) → FitsSigned w32 z → (from : ℕ) (y : Insn) → asks ≡ true → ((x : typings.Table) (k : Number) → move_fits x n y k ≡ in_kind (kind_before x n from) k) → typing_fits table n y (Some (value.Word (cast_unsigned w32 z))) ≡ true
        → is_below q (constant_kind z) (kind_at a.registers from) ≡ true
    typing_asked z small from y ask moves e = by table refl e
      where
        by : (o : Option typings.Table) → table ≡ o → typing_fits o n y (Some (value.Word (cast_unsigned w32 z))) ≡ true → is_below q (constant_kind z) (kind_at a.registers from) ≡ true
        by None i e = absurd (true≢false (sym e))
        by (Some x) i e = known_kind z small x (has_table.asked x i ask) from (sym (moves x (value.Word (cast_unsigned w32 z))) ∙ e)

    moves_above : (y : Insn) (z : ℤ) → FitsSigned w32 z → (is_narrow_move y ≡ true → asks ≡ true) → is_typed_so table n y (Some (value.Word (cast_unsigned w32 z))) ≡ true → is_narrow_move y ≡ true
        → is_below q (constant_kind z) (left_kind p nc nm n a y) ≡ true
    moves_above (insn.Move slot.Word to from) z small ask e i = typing_asked z small from (insn.Move slot.Word to from) (ask i) (λ x k. refl) e
    moves_above (insn.Move slot.Object to from) z small ask e i = typing_asked z small from (insn.Move slot.Object to from) (ask i) (λ x k. refl) e
    moves_above y z small ask e i = clash false i refl

    -- ---- what is taken of a result

    null_taken : (z : ℤ) → FitsSigned w32 z → (x : Slot) → is_wide_slot x ≡ false → result_fits x a.result ≡ true → (cast_unsigned w32 z == 0) ≡ true → is_below q (constant_kind z) a.result ≡ true
    null_taken z small slot.Wide i f e = clash true refl i
    null_taken z small slot.Word i f e = subst (λ k. is_below q k a.result ≡ true) (sym (zero_kind z small e)) (zero_number q a.result f)
    null_taken z small slot.Object i f e = subst (λ k. is_below q k a.result ≡ true) (sym (zero_kind z small e)) (zero_initialised q a.result f)

    word_taken : (z : ℤ) (u : Text) (k : Kind) → is_number k ≡ true → is_below q (kind_of q u) k ≡ true → is_below q (constant_kind z) k ≡ true
    word_taken z u name.Zero i e = clash (is_below q (kind_of q u) name.Zero) e (type_not_zero q u)
    word_taken z u name.Word i e = word_above q z
    word_taken z u k i e = clash false i refl

    given_taken : (z : ℤ) → FitsSigned w32 z → (x : Slot) (u : Text) → is_wide_slot x ≡ false → result_fits x a.result ≡ true → is_below q (kind_of q u) a.result ≡ true → in_type (letter u) (value.Word (cast_unsigned w32 z)) ≡ true
        → is_below q (constant_kind z) a.result ≡ true
    given_taken z small slot.Wide u i f e k = clash true refl i
    given_taken z small slot.Word u i f e k = word_taken z u a.result f e
    given_taken z small slot.Object u i f e k =
        null_taken z small slot.Object i f (null_letter u (value.Word (cast_unsigned w32 z)) (type_of_objects q u (initialised_under q (kind_of q u) a.result f e)) k)

  -- what a call leaves comes behind it
  called_below : (j : ℕ) (kind : InvokeKind) (method : ℕ) (args : List ℕ) (a : Kinds) → slice_get b.insns j ≡ Some (insn.Invoke kind method args) → is_some (state_at t j) ≡ true → state_at t (suc j) ≡ Some a
      → is_below q (kind_of q (naming.method_at p method).signature.result) a.result ≡ true
  called_below j kind method args a i e s = by (state_at t j) refl e
    where
      f : Form
      f = form.Invoke kind (naming.method_at p method) args

      there : form_at nb j ≡ Some f
      there = got_map (form_of p) b.insns j (insn.Invoke kind method args) i

      below_result : (x : Kinds) → kinds_below q x a ≡ true → is_below q x.result a.result ≡ true
      below_result x e = and_right (all_below q x.registers a.registers) (is_below q x.result a.result)
          (and_left (all_below q x.registers a.registers && is_below q x.result a.result) (is_below q x.caught a.caught)
          (and_left (all_below q x.registers a.registers && is_below q x.result a.result && is_below q x.caught a.caught) (is_below q x.receiver a.receiver) e))

      by : (o : Option Kinds) → state_at t j ≡ o → is_some o ≡ true → is_below q (kind_of q (naming.method_at p method).signature.result) a.result ≡ true
      by None k l = absurd (true≢false (sym l))
      by (Some x) k l =
          let all : list_all (arrives q t) (edges q nc nb j f x) ≡ true = tested q nc nm nb t typing j f x there k (λ f a. list_all (arrives q t) (edges q nc nb j f a))
          (each_at (length nb.forms) (λ n. at_state nb t (λ f a. list_all (arrives q t) (edges q nc nb n f a)) n) j (got_short nb.forms j f there) typing.edges) in
          let first : arrives q t (j + 1, called q nc kind (naming.method_at p method) args x) ≡ true = and_left (arrives q t (j + 1, called q nc kind (naming.method_at p method) args x))
          (list_all (arrives q t) (map (λ (h : ℕ × Kind). (h.0, record x { caught = h.1 })) (catches q nb j f))) all in
          below_result (called q nc kind (naming.method_at p method) args x) (ap (state_below q (Some (called q nc kind (naming.method_at p method) args x))) (sym (ap (state_at t) (next_is j) ∙ s)) ∙ first)

  takes_above : (n : ℕ) (a : Kinds) → state_at t n ≡ Some a → has_front true t n ≡ true → (z : ℤ) → FitsSigned w32 z → (x : Slot) → is_wide_slot x ≡ false → result_fits x a.result ≡ true
      → in_result p (insn_before b.insns n) (value.Word (cast_unsigned w32 z)) ≡ true → is_below q (constant_kind z) a.result ≡ true
  takes_above zero a s front z small x i f e = null_taken zero a s z small x i f e
  takes_above (suc j) a s front z small x i f e = by (slice_get b.insns j) refl e
    where
      by : (o : Option Insn) → slice_get b.insns j ≡ o → in_result p o (value.Word (cast_unsigned w32 z)) ≡ true → is_below q (constant_kind z) a.result ≡ true
      by (Some (insn.Invoke kind method args)) k e = given_taken (suc j) a s z small x (naming.method_at p method).signature.result i f (called_below j kind method args a k front s)
          (ap (λ l. in_type l (value.Word (cast_unsigned w32 z))) (sym (letter_same p method)) ∙ e)
      by None k e = null_taken (suc j) a s z small x i f e
      by (Some y) k e = null_taken (suc j) a s z small x i f e

  -- ---- what is written at a position

  module _ (n : ℕ) (g : Insn) (new : slice_get d.insns n ≡ Some g) (a : Kinds) (s : state_at t n ≡ Some a) (fold : IsFoldOf p facts table at.class m.name b n g) where
    abbrev y : Insn
    y = fold.form

    here : form_at nb n ≡ Some (form_of p fold.form)
    here = got_map (form_of p) b.insns n fold.form fold.there

    allowed : is_allowed q nc nm a (form_of p fold.form) ≡ true
    allowed = allowed_at q nc nm nb t typing n (form_of p fold.form) a here s

    right : is_wrong q nc nm a (form_of p fold.form) ≡ false
    right = right_at q nc nm nb t typing n (form_of p fold.form) a here s

    suits : (is_narrow_move fold.form ≡ true → asks ≡ true) → (takes_result (Some (form_of p fold.form)) ≡ true → has_front true t n ≡ true) → (z : ℤ) → FitsSigned w32 z → number_written g ≡ Some (value.Word (cast_unsigned w32 z)) → Suits p nc nm n a fold.form z
    suits ask front z small e = record {
      moves = moves_above n a s fold.form z small ask (fold.kinds (value.Word (cast_unsigned w32 z)) e).typed;
      takes = λ x to i k. takes_above n a s (front (ap (λ y. takes_result (Some (form_of p y))) i)) z small x k
          (and_left (result_fits x a.result) true (subst (λ y. is_allowed q nc nm a (form_of p y) ≡ true) i allowed))
          (subst (λ y. fits p (insn_before b.insns n) y (value.Word (cast_unsigned w32 z)) ≡ true) i (fold.kinds (value.Word (cast_unsigned w32 z)) e).fits);
    }

    lowers : (is_narrow_move fold.form ≡ true → asks ≡ true) → (takes_result (Some (form_of p fold.form)) ≡ true → has_front true t n ≡ true) → Lowers q nc nm n a (form_of p fold.form) (form_of p g)
    lowers ask front = by g fold.allowed refl
      where
        by : (x : Insn) → IsAllowed p (given p facts at.class (insn_before b.insns n) fold.form) (frame_at facts.frames.items m.name n) n fold.form x → x ≡ g → Lowers q nc nm n a (form_of p fold.form) (form_of p g)
        by _ (Branch x e) i = subst (λ x. Lowers q nc nm n a (form_of p fold.form) (form_of p x)) i
            (branch_lowers p nc nm n a fold.form x (n + 1) (way_by (frame_at facts.frames.items m.name n) fold.form) e)
        by _ (Constant k x e w f) i = constant_lowers p nc nm n a fold.form (insn_before b.insns n) allowed right g (subst (IsConstantFor fold.form) i f) (words n g new) (λ k e. (fold.kinds k e).fits) (suits ask front)

  -- ---- the body

  long : length d.insns ≡ length b.insns
  long = same_long b.insns d.insns folded.ends (λ n x e. let r = folded.insns n x e in (r.0, r.1))

  forms : (n : ℕ) (f g : Form) (a : Kinds) → form_at nb n ≡ Some f → form_at nd n ≡ Some g → state_at t n ≡ Some a → (takes_result (Some f) ≡ true → has_front true t n ≡ true) → (g ≡ f) ⊎ Lowers q nc nm n a f g
  forms n f g a i j s front =
      let x = before_map (form_of p) (slice_get b.insns n) f (sym (get_map (form_of p) b.insns n) ∙ i) in
      let y = before_map (form_of p) (slice_get d.insns n) g (sym (get_map (form_of p) d.insns n) ∙ j) in
      let k = folded.insns n x.0 x.1.0 in
      let same : k.0 ≡ y.0 = some_same k.0 y.0 (sym k.1 ∙ y.1.0) in
      let new : form_of p k.0 ≡ g = ap (form_of p) same ∙ y.1.1 in
      by x.0 x.1.0 x.1.1 k.0 k.1 new k.2
    where
      by : (v : Insn) → slice_get b.insns n ≡ Some v → form_of p v ≡ f → (u : Insn) → slice_get d.insns n ≡ Some u → form_of p u ≡ g → (u ≡ v) ⊎ (IsFoldOf p facts table at.class m.name b n u × (is_narrow_move v ≡ true → asks ≡ true)) → (g ≡ f) ⊎ Lowers q nc nm n a f g
      by v old e u new l (inl o) = inl (sym l ∙ ap (form_of p) o ∙ e)
      by v old e u new l (inr o) =
          let same : v ≡ o.0.form = some_same v o.0.form (sym old ∙ o.0.there) in
          let is : form_of p o.0.form ≡ f = ap (form_of p) (sym same) ∙ e in
          inr (subst (λ f. Lowers q nc nm n a f g) is (subst (λ g. Lowers q nc nm n a (form_of p o.0.form) g) l
          (lowers n u new a s o.0 (λ k. o.1 (ap is_narrow_move same ∙ k)) (λ k. front (ap (λ f. takes_result (Some f)) (sym is) ∙ k)))))

  lowered : IsLowered q nc nm nb nd t
  lowered = record {
    forms = forms;
    long = map_long (form_of p) d.insns ∙ long ∙ sym (map_long (form_of p) b.insns);
    regions = ap (map (region_of p)) folded.regions;
    registers = folded.registers;
    ins = folded.ins;
  }

  pub folded_typing : (u : Table) × IsTyping q nc nm nd u
  folded_typing = (taken_table true nb.forms t, lowered_typing q ordered nc nm nb nd places t typing lowered)
