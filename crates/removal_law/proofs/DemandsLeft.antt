-- What forms ask of registers, in what is left of a program: met where it was met.
use Rattle.std.proofs.Common.{◌≡◌, ℕ, ◌+◌, Bool, true, false, List, [], ◌∷◌, ◌++◌, refl, sym, ap, ◌∙◌, subst}
use Rattle.std.specs.Prelude.{◌&&◌, ◌||◌, not, nat_eq, nat_lt, Some, None, map, if◌then◌else◌}
use Rattle.std.specs.List.{list_all}
use Rattle.insn_set.specs.declared.ops.InvokeKind.{InvokeKind}
use Rattle.insn_set.specs.declared.ops.InvokeKind.TheVariants as call
use Rattle.dalvik_defs.specs.Names.{Text, text_eq, object_type, is_word, is_array, is_reference, base_of}
use Rattle.dalvik_defs.specs.Under.{defines}
use Rattle.dalvik_defs.specs.Items.{item_of_type}
use Rattle.dalvik_defs.specs.Find.{Found, Finds, finds_field, finds_super, resolves_method}
use Rattle.dalvik_defs.specs.declared.names.MethodKey.{MethodKey}
use Rattle.dalvik_defs.specs.declared.names.FieldKey.{FieldKey}
use Rattle.dalvik_defs.specs.declared.forms.Form.{Form}
use Rattle.dalvik_defs.specs.declared.forms.Form.TheVariants as form
use Rattle.dalvik_defs.specs.declared.program.NamedMethod.{NamedMethod}
use Rattle.dalvik_defs.specs.declared.program.NamedClass.{NamedClass}
use Rattle.dalvik_defs.specs.declared.program.NamedProgram.{NamedProgram}
use Rattle.pass_defs.specs.Kinds.{Kind, Zero, Low, High, Null, Class, Array, FreshThis, kind_eq, is_number, is_initialised, is_null, depth, is_plain, is_program_interface, kind_of, is_below, item_fits, array_fits, fits_array, fits, fits_holder}
use Rattle.pass_defs.specs.Registers.{kind_at}
use Rattle.pass_defs.specs.Demands.{Demand, Moved, Number, Pair, Behind, Initialised, Either, Fits, Receiver, Holder, Constructed, AnArray, ArrayOf, Filled, is_moved, item_eq, is_array_where, has_width, holds_field, is_constructed, meets}
use Rattle.pass_defs.specs.Mentions.{types_of, types_in, fields_in}
use Rattle.pass_defs.specs.Live.{Family, KeepsAbove}
use Rattle.removal_law.specs.Agree.{Each}
use Rattle.removal_law.specs.Left.{left_in, left_of, In}
use Rattle.removal_law.specs.Reach.{IsRegular, OkType}
use Rattle.removal_law.proofs.Lists.{clash}
use Rattle.removal_law.proofs.Classes.{Kept}
use Rattle.removal_law.proofs.Faces.{base_twice}
use Rattle.removal_law.proofs.KindsLeft.{at_left, null_if, is_gone, is_lost, array_left, left_kind, same_left, class_stays, plain_left, interface_left, type_kept, bare_kept, kind_left, below_left}

-- ---- lists

pub each_all : {A : Type 0} (P : A → Type 0) (f g : A → Bool) → ((x : A) → P x → f x ≡ true → g x ≡ true) → (xs : List A) → Each P xs → list_all f xs ≡ true → list_all g xs ≡ true
each_all P f g h [] k e = refl
each_all {A} P f g h (x ∷ xs) k e = by (f x) (list_all f xs) refl refl e (each_all P f g h xs k.1)
  where
    by : (a b : Bool) → f x ≡ a → list_all f xs ≡ b → (a && b) ≡ true → (list_all f xs ≡ true → list_all g xs ≡ true) → (g x && list_all g xs) ≡ true
    by true true i j e ih = ap (λ b. b && list_all g xs) (h x k.0 i) ∙ ih j
    by true false i j e ih = clash false e refl
    by false b i j e ih = clash false e refl

pub each_both : {A : Type 0} (P : A → Type 0) (xs ys : List A) → Each P xs → Each P ys → Each P (xs ++ ys)
each_both P [] ys h k = k
each_both P (x ∷ xs) ys h k = (h.0, each_both P xs ys h.1 k)

pub each_map : {A B : Type 0} (P : A → Type 0) (Q : B → Type 0) (g : A → B) → ((x : A) → P x → Q (g x)) → (xs : List A) → Each P xs → Each Q (map g xs)
each_map P Q g h [] k = tt
each_map P Q g h (x ∷ xs) k = (h x k.0, each_map P Q g h xs k.1)

pub each_same : {A B : Type 0} (Q : B → Type 0) (g : A → B) → ((x : A) → Q (g x)) → (xs : List A) → Each Q (map g xs)
each_same Q g h [] = tt
each_same Q g h (x ∷ xs) = (h x, each_same Q g h xs)

-- What is known of a form in the code of a method that is left: its types are live where the program defines them, and
-- what it names is found as before.
pub record FormLeft (p : NamedProgram) (s : Family) (c : NamedClass) (m : NamedMethod) (f : Form) : Type 0 where
  pub types : (t : Text) → In t (types_in f) → OkType p s t
  pub own : (t : Text) → In t (types_of m.signature) → OkType p s t
  pub class : OkType p s c.name
  pub fields : (k : FieldKey) → In k (fields_in f) → finds_field (left_of s p) k ≡ finds_field p k
  pub methods : (kind : InvokeKind) (k : MethodKey) (args : List ℕ) → f ≡ form.Invoke kind k args → resolves_method (left_of s p) k ≡ resolves_method p k
  pub supers : (k : MethodKey) (args : List ℕ) → f ≡ form.Invoke call.Super k args → finds_super (left_of s p) c.name k ≡ finds_super p c.name k
  pub found : (k : MethodKey) (args : List ℕ) (g : Found) → f ≡ form.Invoke call.Super k args → finds_super p c.name k ≡ Finds g → OkType p s g.key.class

module _ (p : NamedProgram) (s : Family) (above : KeepsAbove p s) (regular : IsRegular p) (none : defines p object_type ≡ false) where
  abbrev q : NamedProgram
  q = left_of s p

  abbrev left : Kind → Kind
  left = left_kind p s

  -- ---- what fits a type

  item_left : (t u : Text) → OkType p s t → Kept s p u → item_fits p t u ≡ true → item_fits q t u ≡ true
  item_left t u h k e = ap (λ b. is_reference t && is_reference u && (not b || is_below q (kind_of q t) (Class u))) (plain_left p s above regular none u k)
      ∙ by (is_reference t) (is_reference u) (is_plain p u) (is_below p (kind_of p t) (Class u)) refl e
    where
      under : is_below p (kind_of p t) (Class u) ≡ true → is_below q (kind_of q t) (Class u) ≡ true
      under e = ap (λ k. is_below q k (Class u)) (kind_left p s above regular none t h) ∙ subst (λ k. is_below q (left (kind_of p t)) k ≡ true) (class_stays p s u k) (below_left p s above regular none (kind_of p t) (Class u) e)

      by : (a b x y : Bool) → is_below p (kind_of p t) (Class u) ≡ y → (a && b && (not x || y)) ≡ true → (a && b && (not x || is_below q (kind_of q t) (Class u))) ≡ true
      by true true true true i e = under i
      by true true true false i e = clash false e refl
      by true true false y i e = refl
      by true false x y i e = clash false e refl
      by false b x y i e = clash false e refl

  items_left : (t u : Text) → OkType p s t → OkType p s u → array_fits p t u ≡ true → array_fits q t u ≡ true
  items_left t u h k e = by (nat_eq (depth t) (depth u)) e
    where
      ok_base : OkType p s (base_of t)
      ok_base = subst (Kept s p) (sym (base_twice t)) h

      same : (b : Bool) → (b || item_fits p (base_of t) (base_of u)) ≡ true → (b || item_fits q (base_of t) (base_of u)) ≡ true
      same true e = refl
      same false e = item_left (base_of t) (base_of u) ok_base k e

      by : (b : Bool) → (if b then (text_eq t u || item_fits p (base_of t) (base_of u)) else nat_lt (depth u) (depth t) && is_reference (base_of u) && not (is_plain p (base_of u))) ≡ true
          → (if b then (text_eq t u || item_fits q (base_of t) (base_of u)) else nat_lt (depth u) (depth t) && is_reference (base_of u) && not (is_plain q (base_of u))) ≡ true
      by true e = same (text_eq t u) e
      by false e = ap (λ b. nat_lt (depth u) (depth t) && is_reference (base_of u) && not b) (plain_left p s above regular none (base_of u) k) ∙ e

  fits_array_left : (k : Kind) (t : Text) → OkType p s t → fits_array p k t ≡ true → fits_array q (left k) t ≡ true
  fits_array_left Zero t h e = refl
  fits_array_left Null t h e = refl
  fits_array_left (Array u) t h e = by (is_lost p s u) refl
    where
      by : (b : Bool) → is_lost p s u ≡ b → fits_array q (null_if p s b (Array u)) t ≡ true
      by true i = refl
      by false i = items_left u t (array_left p s u i).ok h e
  fits_array_left k t h e = clash false e refl

  pub fits_left : (k : Kind) (t : Text) → OkType p s t → fits p k t ≡ true → fits q (left k) t ≡ true
  fits_left k t h e = by (is_word t) (is_array t) refl e
    where
      plain : Kept s p t → (b : Bool) → (if b then is_below p k (Class t) else is_initialised k) ≡ true → (if b then is_below q (left k) (Class t) else is_initialised (left k)) ≡ true
      plain h true e = subst (λ z. is_below q (left k) z ≡ true) (class_stays p s t h) (below_left p s above regular none k (Class t) e)
      plain h false e = same_left p s is_initialised (λ t. refl) (λ t. refl) k ∙ e

      by : (w a : Bool) → is_array t ≡ a → (if w then is_number k else if a then fits_array p k t else if is_plain p t then is_below p k (Class t) else is_initialised k) ≡ true
          → (if w then is_number (left k) else if a then fits_array q (left k) t else if is_plain q t then is_below q (left k) (Class t) else is_initialised (left k)) ≡ true
      by true a i e = same_left p s is_number (λ t. refl) (λ t. refl) k ∙ e
      by false true i e = fits_array_left k t h e
      by false false i e = let n = bare_kept p s above regular none t i h in
          ap (λ b. if b then is_below q (left k) (Class t) else is_initialised (left k)) (plain_left p s above regular none t n) ∙ plain n (is_plain p t) e

  null_left : (k : Kind) → is_null k ≡ true → is_null (left k) ≡ true
  null_left Zero e = refl
  null_left Null e = refl
  null_left k e = clash false e refl

  pub holder_left : (k : Kind) (t : Text) → OkType p s t → fits_holder p k t ≡ true → fits_holder q (left k) t ≡ true
  holder_left k t h e = ap (λ b. fits q (left k) t && (not b || is_null (left k))) (interface_left p s above regular none t (type_kept p s above regular none t h)) ∙ by (fits p k t) (is_program_interface p t) refl e
    where
      by : (a b : Bool) → fits p k t ≡ a → (a && (not b || is_null k)) ≡ true → (fits q (left k) t && (not b || is_null (left k))) ≡ true
      by true true i e = ap (λ x. x && is_null (left k)) (fits_left k t h i) ∙ null_left k e
      by true false i e = ap (λ x. x && true) (fits_left k t h i)
      by false b i e = clash false e refl

  -- ---- when a demand is met

  abbrev pub OkDemand : Demand → Type 0
  OkDemand (Fits t) = OkType p s t
  OkDemand (Receiver t) = OkType p s t
  OkDemand (Holder k) = OkType p s k.class × (finds_field q k ≡ finds_field p k)
  OkDemand d = Unit {0}

  where_left : (of : Text → Bool) (k : Kind) → is_array_where of k ≡ true → is_array_where of (left k) ≡ true
  where_left of Zero e = refl
  where_left of Null e = refl
  where_left of (Array t) e = by (is_lost p s t)
    where
      by : (b : Bool) → is_array_where of (null_if p s b (Array t)) ≡ true
      by true = refl
      by false = e
  where_left of k e = clash false e refl

  holds_left : (c : NamedClass) (k : FieldKey) (kind : Kind) → OkType p s k.class → finds_field q k ≡ finds_field p k → holds_field p c k kind ≡ true → holds_field q (left_in s c) k (left kind) ≡ true
  holds_left c k FreshThis h f e = ap (λ o. elim o as (λ o. Bool) [ Some f ↦ text_eq f.0 c.name | None ↦ false ]) f ∙ e
  holds_left c k (Class t) h f e = by (is_gone p s t) ∙ holder_left (Class t) k.class h e
    where
      by : (b : Bool) → holds_field q (left_in s c) k (null_if p s b (Class t)) ≡ fits_holder q (null_if p s b (Class t)) k.class
      by true = refl
      by false = refl
  holds_left c k (Array t) h f e = by (is_lost p s t) ∙ holder_left (Array t) k.class h e
    where
      by : (b : Bool) → holds_field q (left_in s c) k (null_if p s b (Array t)) ≡ fits_holder q (null_if p s b (Array t)) k.class
      by true = refl
      by false = refl
  holds_left c k kind h f e = holder_left kind k.class h e

  pub meets_left : (c : NamedClass) (ks : List Kind) (r : ℕ) (d : Demand) → OkDemand d → meets p c ks r d ≡ true → meets q (left_in s c) (map left ks) r d ≡ true
  meets_left c ks r Moved h e = ap is_moved (at_left p s ks r) ∙ same_left p s is_moved (λ t. refl) (λ t. refl) (kind_at ks r) ∙ e
  meets_left c ks r Number h e = ap is_number (at_left p s ks r) ∙ same_left p s is_number (λ t. refl) (λ t. refl) (kind_at ks r) ∙ e
  meets_left c ks r Pair h e =
      ap (λ k. kind_eq k Low && kind_eq (kind_at (map left ks) (r + 1)) High) (at_left p s ks r)
      ∙ ap (λ b. b && kind_eq (kind_at (map left ks) (r + 1)) High) (same_left p s (λ k. kind_eq k Low) (λ t. refl) (λ t. refl) (kind_at ks r))
      ∙ ap (λ k. kind_eq (kind_at ks r) Low && kind_eq k High) (at_left p s ks (r + 1))
      ∙ ap (λ b. kind_eq (kind_at ks r) Low && b) (same_left p s (λ k. kind_eq k High) (λ t. refl) (λ t. refl) (kind_at ks (r + 1)))
      ∙ e
  meets_left c ks r (Behind n) h e = e
  meets_left c ks r Initialised h e = ap is_initialised (at_left p s ks r) ∙ same_left p s is_initialised (λ t. refl) (λ t. refl) (kind_at ks r) ∙ e
  meets_left c ks r Either h e = ap (λ k. is_number k || is_initialised k) (at_left p s ks r) ∙ same_left p s (λ k. is_number k || is_initialised k) (λ t. refl) (λ t. refl) (kind_at ks r) ∙ e
  meets_left c ks r (Fits t) h e = ap (λ k. fits q k t) (at_left p s ks r) ∙ fits_left (kind_at ks r) t h e
  meets_left c ks r (Receiver t) h e = ap (λ k. fits_holder q k t) (at_left p s ks r) ∙ holder_left (kind_at ks r) t h e
  meets_left c ks r (Holder k) h e = ap (holds_field q (left_in s c) k) (at_left p s ks r) ∙ holds_left c k (kind_at ks r) h.0 h.1 e
  meets_left c ks r (Constructed t) h e = ap (is_constructed (left_in s c) t) (at_left p s ks r) ∙ same_left p s (is_constructed (left_in s c) t) (λ t. refl) (λ t. refl) (kind_at ks r) ∙ same (kind_at ks r) ∙ e
    where
      same : (k : Kind) → is_constructed (left_in s c) t k ≡ is_constructed c t k
      same k = refl
  meets_left c ks r AnArray h e = ap (is_array_where (λ t. true)) (at_left p s ks r) ∙ where_left (λ t. true) (kind_at ks r) e
  meets_left c ks r (ArrayOf i) h e = ap (is_array_where (λ t. item_eq (item_of_type t) i)) (at_left p s ks r) ∙ where_left (λ t. item_eq (item_of_type t) i) (kind_at ks r) e
  meets_left c ks r (Filled n) h e = ap (is_array_where (λ t. has_width n (item_of_type t))) (at_left p s ks r) ∙ where_left (λ t. has_width n (item_of_type t)) (kind_at ks r) e
