-- Renamed kinds may be read where the kinds may.
use Rattle.std.proofs.Common.{◌≡◌, ℕ, ◌+◌, Bool, true, false, List, [], ◌∷◌, length, refl, ap, ap₂, ◌∙◌}
use std.Path.{fun_ext}
use Rattle.std.specs.Prelude.{◌&&◌, ◌||◌, not, map, nat_eq, if◌then◌else◌}
use Rattle.std.specs.List.{list_all}
use Rattle.insn_set.specs.declared.ops.Slot.{Slot}
use Rattle.insn_set.specs.declared.ops.Slot.TheVariants as slot
use Rattle.dalvik_defs.specs.Names.{Text, is_word, is_array, is_void, item_of}
use Rattle.dalvik_defs.specs.Items.{item_of_type}
use Rattle.dalvik_defs.specs.declared.names.FieldKey.{FieldKey}
use Rattle.dalvik_defs.specs.declared.forms.Form.{Form}
use Rattle.dalvik_defs.specs.declared.forms.Form.TheVariants as form
use Rattle.dalvik_defs.specs.declared.program.NamedMethod.{NamedMethod}
use Rattle.dalvik_defs.specs.declared.program.NamedClass.{NamedClass}
use Rattle.dalvik_defs.specs.declared.program.NamedProgram.{NamedProgram}
use Rattle.pass_defs.specs.Kinds.{Kind, Word, Low, High, Class, Fresh, kind_eq, is_number, is_initialised, is_plain, is_program_interface, kind_of, is_below, fits_array, fits, fits_holder}
use Rattle.pass_defs.specs.Registers.{Kinds, kind_at}
use Rattle.pass_defs.specs.Demands.{Demand, Moved, Number, Pair, Behind, Initialised, Either, Fits, Receiver, Holder, Constructed, AnArray, ArrayOf, Filled, is_moved, item_eq, is_array_where, has_width, holds_field, is_constructed, meets, is_equality, like, tested, second_tested, call_demands, demands, result_fits, place_allowed, is_allowed}
use Rattle.pass_defs.specs.Remade.{retargeted}
use Rattle.pass_defs.specs.Typed.{is_constructor, passed_words, wrong_method, wrong_super, wrong_return, ends_early, is_wrong}
use Rattle.thin_laws.specs.Renamed.{KeepsApart, renamed, kinds_renamed}
use Rattle.thin_laws.proofs.Orders.{eq_plain, number_kept, initialised_kept, null_kept, kind_fixed, below_kept, at_kept}

pub all_same : (ns : List ℕ) → map (λ n. n) ns ≡ ns
all_same [] = refl
all_same (n ∷ ns) = ap (λ l. n ∷ l) (all_same ns)

module _ (s : ℕ → ℕ) (apart : KeepsApart s) (p : NamedProgram) (c : NamedClass) where
  abbrev mv : Kind → Kind
  mv = renamed s

  array_kept : (k : Kind) (t : Text) → fits_array p (mv k) t ≡ fits_array p k t
  array_kept (Fresh u n) t = refl
  array_kept k t = refl

  fits_kept : (k : Kind) (t : Text) → fits p (mv k) t ≡ fits p k t
  fits_kept k t =
      ap (λ x. if is_word t then x else if is_array t then fits_array p (mv k) t else if is_plain p t then is_below p (mv k) (Class t) else is_initialised (mv k)) (number_kept s apart k)
      ∙ ap (λ x. if is_word t then is_number k else if is_array t then x else if is_plain p t then is_below p (mv k) (Class t) else is_initialised (mv k)) (array_kept k t)
      ∙ ap (λ x. if is_word t then is_number k else if is_array t then fits_array p k t else if is_plain p t then x else is_initialised (mv k)) (below_kept s apart p k (Class t))
      ∙ ap (λ x. if is_word t then is_number k else if is_array t then fits_array p k t else if is_plain p t then is_below p k (Class t) else x) (initialised_kept s apart k)

  holder_kept : (k : Kind) (t : Text) → fits_holder p (mv k) t ≡ fits_holder p k t
  holder_kept k t = ap₂ (λ a b. a && (not (is_program_interface p t) || b)) (fits_kept k t) (null_kept s apart k)

  holds_kept : (f : FieldKey) (k : Kind) → holds_field p c f (mv k) ≡ holds_field p c f k
  holds_kept f (Fresh t n) = holder_kept (Fresh t n) f.class
  holds_kept f k = refl

  constructed_kept : (t : Text) (k : Kind) → is_constructed c t (mv k) ≡ is_constructed c t k
  constructed_kept t (Fresh u n) = refl
  constructed_kept t k = refl

  where_kept : (f : Text → Bool) (k : Kind) → is_array_where f (mv k) ≡ is_array_where f k
  where_kept f (Fresh u n) = refl
  where_kept f k = refl

  moved_kept : (k : Kind) → is_moved (mv k) ≡ is_moved k
  moved_kept (Fresh u n) = refl
  moved_kept k = refl

  meets_kept : (ks : List Kind) (r : ℕ) (d : Demand) → meets p c (map mv ks) r d ≡ meets p c ks r d
  meets_kept ks r Moved = ap is_moved (at_kept s apart ks r) ∙ moved_kept (kind_at ks r)
  meets_kept ks r Number = ap is_number (at_kept s apart ks r) ∙ number_kept s apart (kind_at ks r)
  meets_kept ks r Pair = ap₂ (λ a b. kind_eq a Low && kind_eq b High) (at_kept s apart ks r) (at_kept s apart ks (r + 1))
      ∙ ap₂ (λ a b. a && b) (eq_plain s apart (kind_at ks r) Low refl) (eq_plain s apart (kind_at ks (r + 1)) High refl)
  meets_kept ks r (Behind q) = refl
  meets_kept ks r Initialised = ap is_initialised (at_kept s apart ks r) ∙ initialised_kept s apart (kind_at ks r)
  meets_kept ks r Either = ap (λ k. is_number k || is_initialised k) (at_kept s apart ks r) ∙ ap₂ (λ a b. a || b) (number_kept s apart (kind_at ks r)) (initialised_kept s apart (kind_at ks r))
  meets_kept ks r (Fits t) = ap (λ k. fits p k t) (at_kept s apart ks r) ∙ fits_kept (kind_at ks r) t
  meets_kept ks r (Receiver t) = ap (λ k. fits_holder p k t) (at_kept s apart ks r) ∙ holder_kept (kind_at ks r) t
  meets_kept ks r (Holder f) = ap (holds_field p c f) (at_kept s apart ks r) ∙ holds_kept f (kind_at ks r)
  meets_kept ks r (Constructed t) = ap (is_constructed c t) (at_kept s apart ks r) ∙ constructed_kept t (kind_at ks r)
  meets_kept ks r AnArray = ap (is_array_where (λ t. true)) (at_kept s apart ks r) ∙ where_kept (λ t. true) (kind_at ks r)
  meets_kept ks r (ArrayOf i) = ap (is_array_where (λ t. item_eq (item_of_type t) i)) (at_kept s apart ks r) ∙ where_kept (λ t. item_eq (item_of_type t) i) (kind_at ks r)
  meets_kept ks r (Filled n) = ap (is_array_where (λ t. has_width n (item_of_type t))) (at_kept s apart ks r) ∙ where_kept (λ t. has_width n (item_of_type t)) (kind_at ks r)

  like_kept : (k : Kind) → like (mv k) ≡ like k
  like_kept (Fresh u n) = refl
  like_kept k = refl

  module _ (m : NamedMethod) (at : ℕ → ℕ) where
    demands_kept : (ks : List Kind) (f : Form) → demands p c m (map mv ks) (retargeted at f) ≡ demands p c m ks f
    demands_kept ks (form.FilledNewArray kind args) = ap (map (λ r. (r, Fits (item_of kind)))) (all_same args)
    demands_kept ks (form.Invoke kind method args) = ap (call_demands p c kind method) (all_same args)
    demands_kept ks (form.If test a b target) = ap (λ k. (a, tested (is_equality test)) ∷ (b, second_tested (is_equality test) k) ∷ []) (at_kept s apart ks a)
        ∙ ap (λ d. (a, tested (is_equality test)) ∷ (b, elim (is_equality test) as (λ b. Demand) [ true ↦ d | false ↦ Number ]) ∷ []) (like_kept (kind_at ks a))
    demands_kept ks f = refl

    result_kept : (t : Slot) (k : Kind) → result_fits t (mv k) ≡ result_fits t k
    result_kept slot.Word k = number_kept s apart k
    result_kept slot.Wide k = eq_plain s apart k Low refl
    result_kept slot.Object k = initialised_kept s apart k

    place_kept : (a : Kinds) (f : Form) → place_allowed (kinds_renamed s a) (retargeted at f) ≡ place_allowed a f
    place_kept a (form.MoveResult t to) = result_kept t a.result
    place_kept a (form.MoveException to) = initialised_kept s apart a.caught
    place_kept a f = refl

    pub allowed_kept : (a : Kinds) (f : Form) → is_allowed p c m (kinds_renamed s a) (retargeted at f) ≡ is_allowed p c m a f
    allowed_kept a f = ap (λ x. x && list_all (λ d. meets p c (map mv a.registers) d.0 d.1) (demands p c m (map mv a.registers) (retargeted at f))) (place_kept a f)
        ∙ ap (λ ds. place_allowed a f && list_all (λ d. meets p c (map mv a.registers) d.0 d.1) ds) (demands_kept a.registers f)
        ∙ ap (λ g. place_allowed a f && list_all g (demands p c m a.registers f)) (fun_ext (λ d. meets_kept a.registers d.0 d.1))

    early_kept : (a : Kinds) → ends_early p c m (kinds_renamed s a) ≡ ends_early p c m a
    early_kept a = ap (λ x. is_constructor m && not x) (eq_plain s apart a.receiver (kind_of p c.name) (kind_fixed s apart p c.name))

    pub wrong_kept : (a : Kinds) (f : Form) → is_wrong p c m (kinds_renamed s a) (retargeted at f) ≡ is_wrong p c m a f
    wrong_kept a form.ReturnVoid = ap (λ x. not (is_void m.signature.result) || x) (early_kept a)
    wrong_kept a (form.Return t from) = ap (λ x. wrong_return t m.signature.result || x) (early_kept a)
    wrong_kept a (form.Invoke kind method args) = ap (λ l. wrong_method p kind method || wrong_super p c kind method || not (nat_eq (length l) (passed_words kind method))) (all_same args)
    wrong_kept a f = refl
