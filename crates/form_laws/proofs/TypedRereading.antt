-- A program that reads originals of the kinds of their copies is typed.
use Rattle.std.proofs.Common.{◌≡◌, ℕ, suc, ◌+◌, Bool, true, false, List, [], ◌∷◌, Some, refl, sym, ap, ap₂, ◌∙◌, subst, arith, eqb-true, eq-eqb}
use Rattle.std.specs.Prelude.{◌&&◌, ◌||◌, not, nat_eq, if◌then◌else◌, All}
use Rattle.std.specs.List.{list_any, list_all}
use Rattle.lemmas.proofs.Bools.{and_left, or_left}
use Rattle.insn_set.specs.Registers.{in_operand}
use Rattle.insn_set.specs.Widths.{is_wide_slot}
use Rattle.insn_set.specs.declared.ops.Slot.{Slot}
use Rattle.dalvik_defs.specs.declared.forms.Form.{Form}
use Rattle.dalvik_defs.specs.declared.forms.Form.TheVariants as form
use Rattle.dalvik_defs.specs.declared.program.NamedBody.{NamedBody}
use Rattle.dalvik_defs.specs.declared.program.NamedClass.{NamedClass}
use Rattle.dalvik_defs.specs.declared.program.NamedMethod.{NamedMethod}
use Rattle.dalvik_defs.specs.declared.program.NamedProgram.{NamedProgram}
use Rattle.pass_defs.specs.Bare.{reads}
use Rattle.pass_defs.specs.Packed.{wides_read}
use Rattle.pass_defs.specs.Stale.{reads_as}
use Rattle.pass_defs.specs.Walks.{form_at}
use Rattle.pass_defs.specs.Kinds.{Kind, Low, High, kind_eq}
use Rattle.pass_defs.specs.Registers.{Kinds, kind_at}
use Rattle.pass_defs.specs.Demands.{Pair, meets, demands, place_allowed, is_allowed}
use Rattle.pass_defs.specs.Typed.{state_at, IsTyped}
use Rattle.program_laws.specs.Bodies.{Change, changed}
use Rattle.form_laws.specs.Changes.{In}
use Rattle.form_laws.specs.Kinds.{Held}
use Rattle.form_laws.proofs.Uses.{or_right}
use Rattle.form_laws.proofs.Demanded.{and_behind}
use Rattle.form_laws.proofs.Asked.{all_in}
use Rattle.form_laws.proofs.Asking.{low_is, high_is, all_same, first_same}
use Rattle.form_laws.proofs.Typings.{allowed_at, right_at}
use Rattle.form_laws.proofs.Onward.{clash}
use Rattle.form_laws.specs.Reread.{Copied, substituted, StandsThere}
use Rattle.form_laws.specs.TypedCopies.{Leaves, SameAt, HasKind, IsTypedReread, AllTypedReread}
use Rattle.form_laws.proofs.Rereading.{first, rest, known_at, known_all, reread_reads, reread_new}
use Rattle.form_laws.proofs.TypedReads.{copied_typed}

-- a wide operand that a register stands in
covered : (x r : ℕ) (ws : List ℕ) → in_operand true x r ≡ true → list_any (nat_eq x) ws ≡ true → list_any (λ w. in_operand true w r) ws ≡ true
covered x r [] i e = clash false e refl
covered x r (w ∷ ws) i e = by (covered x r ws i) (nat_eq x w) refl e
  where
    by : (list_any (nat_eq x) ws ≡ true → list_any (λ w. in_operand true w r) ws ≡ true) → (b : Bool) → nat_eq x w ≡ b → (b || list_any (nat_eq x) ws) ≡ true → list_any (λ w. in_operand true w r) (w ∷ ws) ≡ true
    by more true j e = or_left (in_operand true w r) (list_any (λ w. in_operand true w r) ws) (subst (λ y. in_operand true y r ≡ true) (eqb-true x w j) i)
    by more false j e = or_right (in_operand true w r) (list_any (λ w. in_operand true w r) ws) (more e)

module _ (b : NamedBody) (n : ℕ) (f : Form) (a : Kinds) where
  abbrev ks : List Kind
  ks = a.registers

  -- originals have the kinds of what is read
  same_kind : (cs : List Copied) → All (HasKind a) cs → (r : ℕ) → kind_at ks (substituted cs r) ≡ kind_at ks r
  same_kind [] h r = refl
  same_kind (c ∷ cs) h r = by (nat_eq r c.to) refl (same_kind cs (λ k d lt. h (suc k) d (omega (arith, lt))) r)
    where
      has : HasKind a c
      has = h 0 c (omega arith)

      behind : (v u : Bool) → is_wide_slot c.slot ≡ v → nat_eq r (c.to + 1) ≡ u → kind_at ks (substituted cs r) ≡ kind_at ks r → kind_at ks (if v && u then c.from + 1 else substituted cs r) ≡ kind_at ks r
      behind true true i j k = let w = has.wide i in w.1.1 ∙ sym w.1.0 ∙ ap (kind_at ks) (sym (eqb-true r (c.to + 1) j))
      behind true false i j k = k
      behind false u i j k = k

      by : (v : Bool) → nat_eq r c.to ≡ v → kind_at ks (substituted cs r) ≡ kind_at ks r
          → kind_at ks (if v then c.from else if is_wide_slot c.slot && nat_eq r (c.to + 1) then c.from + 1 else substituted cs r) ≡ kind_at ks r
      by true i k = has.same ∙ ap (kind_at ks) (sym (eqb-true r c.to i))
      by false i k = behind (is_wide_slot c.slot) (nat_eq r (c.to + 1)) refl refl k

  -- a narrow copy is no half of a wide that is read
  no_half : (s : Slot) (to x : ℕ) → is_wide_slot s ≡ false → reads_as s f to ≡ true → in_operand true x to ≡ true → list_any (nat_eq x) (wides_read f) ≡ true → ⊥
  no_half s to x w e i l =
      let narrow : (reads f to && not (list_any (λ w. in_operand true w to) (wides_read f))) ≡ true =
      ap (λ v. elim v as (λ v. Bool) [ true ↦ list_any (nat_eq to) (wides_read f) | false ↦ reads f to && not (list_any (λ w. in_operand true w to) (wides_read f)) ]) (sym w) ∙ e in
      clash (not (list_any (λ w. in_operand true w to) (wides_read f))) (and_behind (reads f to) (not (list_any (λ w. in_operand true w to) (wides_read f))) narrow) (ap not (covered x to (wides_read f) i l))

  -- the halves of a wide that is read stay side by side
  beside : (cs : List Copied) → All (StandsThere b n f) cs → All (HasKind a) cs → (x : ℕ) → list_any (nat_eq x) (wides_read f) ≡ true → kind_at ks x ≡ Low → kind_at ks (x + 1) ≡ High → substituted cs (x + 1) ≡ substituted cs x + 1
  beside [] h k x l low high = refl
  beside (c ∷ cs) h k x l low high = by (is_wide_slot c.slot) refl (nat_eq x c.to) (nat_eq (x + 1) c.to) (nat_eq x (c.to + 1)) (nat_eq (x + 1) (c.to + 1)) refl refl refl refl
      (beside cs (rest b n f c cs h) (λ i d lt. k (suc i) d (omega (arith, lt))) x l low high)
    where
      has : HasKind a c
      has = k 0 c (omega arith)

      stands : StandsThere b n f c
      stands = first b n f c cs h

      by : (v : Bool) → is_wide_slot c.slot ≡ v → (u u' w w' : Bool) → nat_eq x c.to ≡ u → nat_eq (x + 1) c.to ≡ u' → nat_eq x (c.to + 1) ≡ w → nat_eq (x + 1) (c.to + 1) ≡ w' → substituted cs (x + 1) ≡ substituted cs x + 1
          → (if nat_eq (x + 1) c.to then c.from else if is_wide_slot c.slot && nat_eq (x + 1) (c.to + 1) then c.from + 1 else substituted cs (x + 1))
          ≡ (if nat_eq x c.to then c.from else if is_wide_slot c.slot && nat_eq x (c.to + 1) then c.from + 1 else substituted cs x) + 1
      by v i u true w w' j j' l1 l1' more = absurd (by_width v i)
        where
          by_width : (v : Bool) → is_wide_slot c.slot ≡ v → ⊥
          by_width true i = clash true refl (ap (λ k. kind_eq k High) (sym high ∙ ap (kind_at ks) (eqb-true (x + 1) c.to j') ∙ (has.wide i).0))
          by_width false i = no_half c.slot c.to x i stands.stands.read (or_right (nat_eq c.to x) (nat_eq c.to (x + 1)) (eq-eqb c.to (x + 1) (sym (eqb-true (x + 1) c.to j')))) l
      by true i true false w w' j j' l1 l1' more =
          let e = eqb-true x c.to j in
          let high_one : nat_eq (x + 1) (c.to + 1) ≡ true = eq-eqb (x + 1) (c.to + 1) (ap (λ y. y + 1) e) in
          ap₂ (λ u z. if u then c.from else if is_wide_slot c.slot && z then c.from + 1 else substituted cs (x + 1)) j' high_one
          ∙ ap (λ v. if v && true then c.from + 1 else substituted cs (x + 1)) i
          ∙ sym (ap (λ u. (if u then c.from else if is_wide_slot c.slot && nat_eq x (c.to + 1) then c.from + 1 else substituted cs x) + 1) j)
      by false i true false w w' j j' l1 l1' more = absurd (no_half c.slot c.to x i stands.stands.read (or_left (nat_eq c.to x) (nat_eq c.to (x + 1)) (eq-eqb c.to x (sym (eqb-true x c.to j)))) l)
      by true i false false true w' j j' l1 l1' more = clash true refl (ap (λ k. kind_eq k Low) (sym low ∙ ap (kind_at ks) (eqb-true x (c.to + 1) l1) ∙ (has.wide i).1.0))
      by true i false false false true j j' l1 l1' more = let e = eqb-true (x + 1) (c.to + 1) l1' in clash (nat_eq x c.to) (eq-eqb x c.to (omega (arith, e))) j
      by true i false false false false j j' l1 l1' more =
          ap₂ (λ u z. if u then c.from else if is_wide_slot c.slot && z then c.from + 1 else substituted cs (x + 1)) j' l1'
          ∙ ap (λ v. if v && false then c.from + 1 else substituted cs (x + 1)) i ∙ more
          ∙ sym (ap₂ (λ u z. (if u then c.from else if is_wide_slot c.slot && z then c.from + 1 else substituted cs x) + 1) j l1 ∙ ap (λ v. (if v && false then c.from + 1 else substituted cs x) + 1) i)
      by false i false false w w' j j' l1 l1' more =
          ap₂ (λ u v. if u then c.from else if v && nat_eq (x + 1) (c.to + 1) then c.from + 1 else substituted cs (x + 1)) j' i ∙ more
          ∙ sym (ap₂ (λ u v. (if u then c.from else if v && nat_eq x (c.to + 1) then c.from + 1 else substituted cs x) + 1) j i)

  -- a cast reads what it read
  cast_stays : (cs : List Copied) → All (StandsThere b n f) cs → (r : ℕ) → ((c : Copied) → StandsThere b n f c → ⊥) → substituted cs r ≡ r
  cast_stays [] h r no_copy = refl
  cast_stays (c ∷ cs) h r no_copy = absurd (no_copy c (first b n f c cs h))

leaves : (b : NamedBody) (n : ℕ) (f : Form) (a : Kinds) (cs : List Copied) → All (StandsThere b n f) cs → All (HasKind a) cs → Leaves (substituted cs) a f
leaves b n (form.Move slot to from) a cs h k = same_kind b n (form.Move slot to from) a cs k from
leaves b n (form.ArrayGet item to array index) a cs h k = same_kind b n (form.ArrayGet item to array index) a cs k array
leaves b n (form.Invoke kind method []) a cs h k = refl
leaves b n (form.Invoke kind method (x ∷ xs)) a cs h k = same_kind b n (form.Invoke kind method (x ∷ xs)) a cs k x
leaves b n (form.CheckCast on kind) a cs h k = cast_stays b n (form.CheckCast on kind) a cs h on (λ c s. clash true refl s.stands.plain)
leaves b n f a cs h k = tt

module _ (p : NamedProgram) (c : NamedClass) (m : NamedMethod) (b d : NamedBody) (h : IsTypedReread p c m b d) where
  same_at : (n : ℕ) (f : Form) (a : Kinds) → form_at b n ≡ Some f → state_at h.table n ≡ Some a → SameAt p c m (substituted (known_at b d h.reads n).copies) a f
  same_at n f a x y =
      let cs = (known_at b d h.reads n).copies in
      let stale = (known_at b d h.reads n).stale f x in
      let kinds = known_all b d h.reads (HasKind a) n (λ g e. h.kinds n g a e y) f x in
      let allowed = allowed_at p c m b h.table h.typing n f a x y in
      let right = right_at p c m b h.table h.typing n f a x y in
      let met : (w : ℕ) → In (w, Pair) (demands p c m a.registers f) → (kind_at a.registers w ≡ Low) × (kind_at a.registers (w + 1) ≡ High) = (λ w i. halves w (pair_met w i allowed)) in
      let held : Held (substituted cs) (reads f) a.registers a.registers = record {
        whole = λ o l w. same_kind b n f a cs kinds o;
        pairs = λ q l l' side low high. (same_kind b n f a cs kinds q ∙ low, ap (kind_at a.registers) (sym side) ∙ same_kind b n f a cs kinds (q + 1) ∙ high);
      } in
      record {
        first = first_same p c m f (substituted cs) (reads f) a a held (λ o r. r) allowed;
        asked = all_same p c m f (substituted cs) (reads f) a a held (λ o r. r) allowed (h.calls n f x) right (λ w i l. beside b n f a cs stale kinds w l (met w i).0 (met w i).1) (demands p c m a.registers f) (λ w q i. i);
        leaves = leaves b n f a cs stale kinds;
      }
    where
      pair_met : (w : ℕ) → In (w, Pair) (demands p c m a.registers f) → is_allowed p c m a f ≡ true → (kind_eq (kind_at a.registers w) Low && kind_eq (kind_at a.registers (w + 1)) High) ≡ true
      pair_met w i e = all_in (λ d. meets p c a.registers d.0 d.1) (demands p c m a.registers f) (w, Pair) (and_behind (place_allowed a f) (list_all (λ d. meets p c a.registers d.0 d.1) (demands p c m a.registers f)) e) i

      halves : (w : ℕ) → (kind_eq (kind_at a.registers w) Low && kind_eq (kind_at a.registers (w + 1)) High) ≡ true → (kind_at a.registers w ≡ Low) × (kind_at a.registers (w + 1) ≡ High)
      halves w e = (low_is (kind_at a.registers w) (and_left (kind_eq (kind_at a.registers w) Low) (kind_eq (kind_at a.registers (w + 1)) High) e), high_is (kind_at a.registers (w + 1)) (and_behind (kind_eq (kind_at a.registers w) Low) (kind_eq (kind_at a.registers (w + 1)) High) e))

pub reread_typed : (p : NamedProgram) (new : Change) → AllTypedReread new p → IsTyped (changed new p)
reread_typed p new all = copied_typed p new (record {
  code = all.code;
  bodies = λ c m b d i j e e'. let h = all.bodies c m b d i j e e' in record { reads = reread_reads b d h.reads; table = h.table; typing = h.typing; kinds = λ n f a x y. subst (λ r. SameAt p c m r a f) (sym (reread_new b d h.reads n)) (same_at p c m b d h n f a x y) };
})
