-- The kinds of a position in what is left of a program: their order, and how writes change them.
use Rattle.std.proofs.Common.{◌≡◌, ℕ, zero, suc, ◌+◌, ◌-◌, Bool, true, false, List, [], ◌∷◌, refl, sym, ap, ◌∙◌, subst}
use Rattle.std.specs.Prelude.{◌&&◌, Option, Some, None, map, slice_set, nat_eq, if◌then◌else◌}
use Rattle.std.specs.Option.{option_map}
use Rattle.std.proofs.lemmas.List.{map-set}
use Rattle.dalvik_defs.specs.Names.{Text, object_type}
use Rattle.dalvik_defs.specs.Under.{defines}
use Rattle.dalvik_defs.specs.declared.program.NamedProgram.{NamedProgram}
use Rattle.pass_defs.specs.Kinds.{Kind, Undefined, Low, High, Null, Class, Array, Reference, Fresh, kind_eq, is_below}
use Rattle.pass_defs.specs.Registers.{Kinds, kind_at, cleared, split, written_one, written_pair, written_kinds, written, replaced, replace, forgotten, forget, all_below, kinds_below, state_below}
use Rattle.pass_defs.specs.Live.{Family, KeepsAbove}
use Rattle.removal_law.specs.Left.{left_of}
use Rattle.removal_law.specs.Reach.{IsRegular}
use Rattle.removal_law.proofs.Lists.{clash}
use Rattle.removal_law.proofs.KindsLeft.{at_left, null_if, is_gone, is_lost, left_kind, same_left, below_left, is_object, null_under}

map_map : {A B : Type 0} (f : A → B) (g : B → B) (h : A → A) → ((x : A) → g (f x) ≡ f (h x)) → (xs : List A) → map g (map f xs) ≡ map f (map h xs)
map_map f g h e [] = refl
map_map f g h e (x ∷ xs) = ap (λ y. y ∷ map g (map f xs)) (e x) ∙ ap (λ ys. f (h x) ∷ ys) (map_map f g h e xs)

and_more : (a b c d : Bool) → (a ≡ true → c ≡ true) → (b ≡ true → d ≡ true) → (a && b) ≡ true → (c && d) ≡ true
and_more true b c d h k e = ap (λ x. x && d) (h refl) ∙ k e
and_more false b c d h k e = clash false e refl

module _ (p : NamedProgram) (s : Family) where
  abbrev left : Kind → Kind
  left = left_kind p s

  abbrev pub left_kinds : Kinds → Kinds
  left_kinds a = record { registers = map left a.registers; result = left a.result; caught = left a.caught; receiver = left a.receiver }

  -- ---- writes

  cleared_left : (half : Kind) → ((t : Text) → kind_eq Null half ≡ kind_eq (Class t) half) → ((t : Text) → kind_eq Null half ≡ kind_eq (Array t) half)
      → (r : ℕ) (ks : List Kind) → cleared r half (map left ks) ≡ map left (cleared r half ks)
  cleared_left half c a r ks =
      ap (λ b. if b then slice_set (map left ks) r Undefined else map left ks) (ap (λ k. kind_eq k half) (at_left p s ks r) ∙ same_left p s (λ k. kind_eq k half) c a (kind_at ks r))
      ∙ by (kind_eq (kind_at ks r) half)
    where
      by : (b : Bool) → (if b then slice_set (map left ks) r Undefined else map left ks) ≡ map left (if b then slice_set ks r Undefined else ks)
      by true = sym (map-set left ks r Undefined)
      by false = refl

  split_left : (r : ℕ) (ks : List Kind) → split r (map left ks) ≡ map left (split r ks)
  split_left r ks = ap (cleared (r - 1) Low) (cleared_left High (λ t. refl) (λ t. refl) (r + 1) ks) ∙ cleared_left Low (λ t. refl) (λ t. refl) (r - 1) (cleared (r + 1) High ks)

  one_left : (r : ℕ) (k : Kind) (ks : List Kind) → written_one r (left k) (map left ks) ≡ map left (written_one r k ks)
  one_left r k ks = ap (λ xs. slice_set xs r (left k)) (split_left r ks) ∙ sym (map-set left (split r ks) r k)

  pair_left : (r : ℕ) (ks : List Kind) → written_pair r (map left ks) ≡ map left (written_pair r ks)
  pair_left r ks =
      ap (λ xs. slice_set (slice_set (split (r + 1) xs) r Low) (r + 1) High) (split_left r ks)
      ∙ ap (λ xs. slice_set (slice_set xs r Low) (r + 1) High) (split_left (r + 1) (split r ks))
      ∙ ap (λ xs. slice_set xs (r + 1) High) (sym (map-set left (split (r + 1) (split r ks)) r Low))
      ∙ sym (map-set left (slice_set (split (r + 1) (split r ks)) r Low) (r + 1) High)

  null_one : (b : Bool) (r : ℕ) (k : Kind) (ks : List Kind) → written_kinds r k ks ≡ written_one r k ks → written_kinds r (null_if p s b k) ks ≡ written_one r (null_if p s b k) ks
  null_one true r k ks e = refl
  null_one false r k ks e = e

  kinds_left : (r : ℕ) (k : Kind) (ks : List Kind) → written_kinds r (left k) (map left ks) ≡ map left (written_kinds r k ks)
  kinds_left r Low ks = pair_left r ks
  kinds_left r (Class t) ks = null_one (is_gone p s t) r (Class t) (map left ks) refl ∙ one_left r (Class t) ks
  kinds_left r (Array t) ks = null_one (is_lost p s t) r (Array t) (map left ks) refl ∙ one_left r (Array t) ks
  kinds_left r k ks = one_left r k ks

  pub written_left : (r : ℕ) (k : Kind) (a : Kinds) → written r (left k) (left_kinds a) ≡ left_kinds (written r k a)
  written_left r k a = ap (λ xs. record (left_kinds a) { registers = xs }) (kinds_left r k a.registers)

  -- ---- objects that no constructor was called on

  -- a kind that isn't of a class or an array is met by what is left as before
  abbrev pub IsNew : Kind → Type 0
  IsNew old = ((t : Text) → kind_eq Null old ≡ kind_eq (Class t) old) × ((t : Text) → kind_eq Null old ≡ kind_eq (Array t) old)

  replaced_left : (old new k : Kind) → IsNew old → replaced old (left new) (left k) ≡ left (replaced old new k)
  replaced_left old new k h = ap (λ b. elim b as (λ b. Kind) [ true ↦ left new | false ↦ left k ]) (same_left p s (λ k. kind_eq k old) h.0 h.1 k) ∙ by (kind_eq k old)
    where
      by : (b : Bool) → (elim b as (λ b. Kind) [ true ↦ left new | false ↦ left k ]) ≡ left (elim b as (λ b. Kind) [ true ↦ new | false ↦ k ])
      by true = refl
      by false = refl

  pub replace_left : (old new : Kind) (a : Kinds) → IsNew old → replace old (left new) (left_kinds a) ≡ left_kinds (replace old new a)
  replace_left old new a h =
      ap (λ xs. record (left_kinds a) { registers = xs; receiver = replaced old (left new) (left a.receiver) }) (map_map left (replaced old (left new)) (replaced old new) (λ k. replaced_left old new k h) a.registers)
      ∙ ap (λ k. record (left_kinds a) { registers = map left (map (replaced old new) a.registers); receiver = k }) (replaced_left old new a.receiver h)

  forgotten_left : (n : ℕ) (k : Kind) → forgotten n (left k) ≡ left (forgotten n k)
  forgotten_left n (Fresh t m) = by (nat_eq n m)
    where
      by : (b : Bool) → (elim b as (λ b. Kind) [ true ↦ Undefined | false ↦ Fresh t m ]) ≡ left (elim b as (λ b. Kind) [ true ↦ Undefined | false ↦ Fresh t m ])
      by true = refl
      by false = refl
  forgotten_left n (Class t) = by (is_gone p s t)
    where
      by : (b : Bool) → forgotten n (null_if p s b (Class t)) ≡ null_if p s b (Class t)
      by true = refl
      by false = refl
  forgotten_left n (Array t) = by (is_lost p s t)
    where
      by : (b : Bool) → forgotten n (null_if p s b (Array t)) ≡ null_if p s b (Array t)
      by true = refl
      by false = refl
  forgotten_left n k = refl

  pub forget_left : (n : ℕ) (a : Kinds) → forget n (left_kinds a) ≡ left_kinds (forget n a)
  forget_left n a = ap (λ xs. record (left_kinds a) { registers = xs }) (map_map left (forgotten n) (forgotten n) (forgotten_left n) a.registers)

module _ (p : NamedProgram) (s : Family) (above : KeepsAbove p s) (regular : IsRegular p) (none : defines p object_type ≡ false) where
  abbrev q : NamedProgram
  q = left_of s p

  abbrev kept : Kind → Kind
  kept = left_kind p s

  -- ---- the order

  all_left : (ks ls : List Kind) → all_below p ks ls ≡ true → all_below q (map kept ks) (map kept ls) ≡ true
  all_left [] [] e = refl
  all_left (k ∷ ks) (l ∷ ls) e = and_more (is_below p k l) (all_below p ks ls) (is_below q (kept k) (kept l)) (all_below q (map kept ks) (map kept ls)) (below_left p s above regular none k l) (all_left ks ls) e
  all_left [] (l ∷ ls) e = clash false e refl
  all_left (k ∷ ks) [] e = clash false e refl

  abbrev Four : Bool → Bool → Bool → Bool → Type 0
  Four a b c d = (a && b && c && d) ≡ true

  four_more : (a b c d x y z w : Bool) → (a ≡ true → x ≡ true) → (b ≡ true → y ≡ true) → (c ≡ true → z ≡ true) → (d ≡ true → w ≡ true) → Four a b c d → Four x y z w
  four_more true true true true x y z w h i j k e = ap (λ x. x && y && z && w) (h refl) ∙ ap (λ y. y && z && w) (i refl) ∙ ap (λ z. z && w) (j refl) ∙ k refl
  four_more false b c d x y z w h i j k e = clash false e refl
  four_more true false c d x y z w h i j k e = clash false e refl
  four_more true true false d x y z w h i j k e = clash false e refl
  four_more true true true false x y z w h i j k e = clash false e refl

  -- The kinds of the second program are at or below what is left of all that those of the first are at or below.
  abbrev pub Stands : Kinds → Kinds → Type 0
  Stands a a' = (b : Kinds) → kinds_below p a b ≡ true → kinds_below q a' (left_kinds p s b) ≡ true

  stands_by : (a a' : Kinds) → ((bs : List Kind) → all_below p a.registers bs ≡ true → all_below q a'.registers (map kept bs) ≡ true)
      → a'.result ≡ kept a.result → a'.caught ≡ kept a.caught → a'.receiver ≡ kept a.receiver → Stands a a'
  stands_by a a' h i j k b e = four_more (all_below p a.registers b.registers) (is_below p a.result b.result) (is_below p a.caught b.caught) (is_below p a.receiver b.receiver)
      (all_below q a'.registers (map kept b.registers)) (is_below q a'.result (kept b.result)) (is_below q a'.caught (kept b.caught)) (is_below q a'.receiver (kept b.receiver))
      (h b.registers) (λ x. ap (λ k. is_below q k (kept b.result)) i ∙ below_left p s above regular none a.result b.result x)
      (λ x. ap (λ k. is_below q k (kept b.caught)) j ∙ below_left p s above regular none a.caught b.caught x)
      (λ x. ap (λ k. is_below q k (kept b.receiver)) k ∙ below_left p s above regular none a.receiver b.receiver x) e

  pub stands_itself : (a : Kinds) → Stands a (left_kinds p s a)
  stands_itself a = stands_by a (left_kinds p s a) (all_left a.registers) refl refl refl

  pub stands_same : (a a' : Kinds) → a' ≡ left_kinds p s a → Stands a a'
  stands_same a a' e = subst (Stands a) (sym e) (stands_itself a)

  set_under : (ks bs : List Kind) (r : ℕ) (k : Kind) → is_object k ≡ true → all_below p (slice_set ks r k) bs ≡ true → all_below q (slice_set (map kept ks) r Null) (map kept bs) ≡ true
  set_under [] bs r k i e = all_left [] bs e
  set_under (x ∷ ks) [] zero k i e = clash false e refl
  set_under (x ∷ ks) [] (suc r) k i e = clash false e refl
  set_under (x ∷ ks) (b ∷ bs) zero k i e = and_more (is_below p k b) (all_below p ks bs) (is_below q Null (kept b)) (all_below q (map kept ks) (map kept bs)) (null_under p s above regular none k b i) (all_left ks bs) e
  set_under (x ∷ ks) (b ∷ bs) (suc r) k i e = and_more (is_below p x b) (all_below p (slice_set ks r k) bs) (is_below q (kept x) (kept b)) (all_below q (slice_set (map kept ks) r Null) (map kept bs))
      (below_left p s above regular none x b) (set_under ks bs r k i) e

  -- where an object is written, null may be
  pub null_stands : (r : ℕ) (k : Kind) (a : Kinds) → is_object k ≡ true → Stands (written r k a) (written r Null (left_kinds p s a))
  null_stands r k a i = stands_by (written r k a) (written r Null (left_kinds p s a)) (λ bs e. ap (λ xs. all_below q (slice_set xs r Null) (map kept bs)) (split_left p s r a.registers)
      ∙ set_under (split r a.registers) bs r k i (ap (λ xs. all_below p xs bs) (sym (one k i)) ∙ e)) refl refl refl
    where
      one : (k : Kind) → is_object k ≡ true → written_kinds r k a.registers ≡ written_one r k a.registers
      one (Class t) i = refl
      one (Array t) i = refl
      one Reference i = refl
      one k i = clash false i refl

  pub state_left : (a a' : Kinds) (o : Option Kinds) → Stands a a' → state_below p (Some a) o ≡ true → state_below q (Some a') (option_map (left_kinds p s) o) ≡ true
  state_left a a' None h e = clash false e refl
  state_left a a' (Some b) h e = h b e
