-- Every operand that a form asks for is read by it, of a wide both halves, where the form is right and allowed.
use Rattle.std.proofs.Common.{◌≡◌, ℕ, ◌+◌, Bool, true, false, true≢false, List, [], ◌∷◌, ◌++◌, length, refl, sym, ap, ◌∙◌, subst, arith, eqb-true}
use Rattle.std.specs.Prelude.{◌||◌, not, nat_eq, map, drop, if◌then◌else◌}
use Rattle.std.specs.List.{list_any, list_all}
use Rattle.lemmas.proofs.Bools.{and_left, clash, neither_of, not_false, or_left}
use Rattle.lemmas.proofs.Numbers.{same_number}
use Rattle.insn_set.specs.Registers.{in_operand}
use Rattle.insn_set.specs.Widths.{is_wide_slot, is_wide_item, compares_wide, unary_reads_wide, unary_writes_wide, binary_is_wide, second_is_wide}
use Rattle.insn_set.specs.declared.ops.Slot.{Slot}
use Rattle.insn_set.specs.declared.ops.Slot.TheVariants as slot
use Rattle.insn_set.specs.declared.ops.Item.{Item}
use Rattle.insn_set.specs.declared.ops.Item.TheVariants as item
use Rattle.insn_set.specs.declared.ops.InvokeKind.{InvokeKind}
use Rattle.insn_set.specs.declared.ops.InvokeKind.TheVariants as call
use Rattle.dalvik_defs.specs.Names.{Text, is_word, is_wide, is_reference, item_of}
use Rattle.dalvik_defs.specs.Find.{finds_super}
use Rattle.dalvik_defs.specs.declared.names.MethodKey.{MethodKey}
use Rattle.dalvik_defs.specs.declared.forms.Form.{Form}
use Rattle.dalvik_defs.specs.declared.forms.Form.TheVariants as form
use Rattle.dalvik_defs.specs.declared.program.NamedClass.{NamedClass}
use Rattle.dalvik_defs.specs.declared.program.NamedMethod.{NamedMethod}
use Rattle.dalvik_defs.specs.declared.program.NamedProgram.{NamedProgram}
use Rattle.pass_defs.specs.Bare.{reads}
use Rattle.pass_defs.specs.Packed.{first_if, wide_arguments, wides_written, wides_read}
use Rattle.pass_defs.specs.Registers.{Kinds}
use Rattle.pass_defs.specs.Demands.{Demand, Number, Pair, Behind, Fits, Constructed, wide_or, slot_demand, put_item, tested, second_tested, is_equality, is_constructor_name, found_class, receiver_demands, passed_wide, passed, meets, demands, place_allowed, is_allowed}
use Rattle.pass_defs.specs.Kinds.{Kind, Zero, Word}
use Rattle.pass_defs.specs.Registers.{kind_at}
use Rattle.pass_defs.specs.Typed.{is_static_call, words_of, passed_words, wrong_item, wrong_return, ends_early, wrong_field, wrong_method, wrong_super, is_wrong}
use Rattle.form_laws.specs.Changes.{In, here, there, destination, width_if, width, TakesPair}
use Rattle.form_laws.specs.Kinds.{IsAsked, HasNarrowClass}
use Rattle.form_laws.proofs.Uses.{or_right, in_own}
use Rattle.form_laws.proofs.Demanded.{and_behind}

pub either : (a b : Bool) {C : Type 0} → (a || b) ≡ true → (a ≡ true → C) → (b ≡ true → C) → C
either true b e f g = f refl
either false b e f g = g e

-- ---- widths of types

reference_narrow : (t : Text) → is_reference t ≡ true → is_wide t ≡ false
reference_narrow [] e = refl
reference_narrow (u ∷ us) e = either (nat_eq u 76) (nat_eq u 91) e
    (λ i. subst (λ x. is_wide (x ∷ us) ≡ false) (sym (eqb-true u 76 i)) refl)
    (λ i. subst (λ x. is_wide (x ∷ us) ≡ false) (sym (eqb-true u 91 i)) refl)

wide_no_word : (t : Text) → is_wide t ≡ true → is_word t ≡ false
wide_no_word [] e = refl
wide_no_word (u ∷ us) e = either (nat_eq u 74) (nat_eq u 68) e
    (λ i. subst (λ x. is_word (x ∷ us) ≡ false) (sym (eqb-true u 74 i)) refl)
    (λ i. subst (λ x. is_word (x ∷ us) ≡ false) (sym (eqb-true u 68 i)) refl)

word_narrow : (t : Text) → is_word t ≡ true → is_wide t ≡ false
word_narrow t e = by (is_wide t) refl
  where
    by : (b : Bool) → is_wide t ≡ b → is_wide t ≡ false
    by true i = clash (is_word t) e (wide_no_word t i)
    by false i = i

pub item_width : (i : Item) (t : Text) → wrong_item i t ≡ false → is_wide t ≡ is_wide_item i
item_width item.Wide t e = not_false (is_wide t) e
item_width item.Object t e = reference_narrow t (not_false (is_reference t) e)
item_width item.Plain t e = (neither_of (is_wide t) (is_reference t) e).0
item_width item.Boolean t e = (neither_of (is_wide t) (is_reference t) e).0
item_width item.Byte t e = (neither_of (is_wide t) (is_reference t) e).0
item_width item.Char t e = (neither_of (is_wide t) (is_reference t) e).0
item_width item.Short t e = (neither_of (is_wide t) (is_reference t) e).0

return_width : (s : Slot) (t : Text) → wrong_return s t ≡ false → is_wide t ≡ is_wide_slot s
return_width slot.Wide t e = not_false (is_wide t) e
return_width slot.Word t e = word_narrow t (not_false (is_word t) e)
return_width slot.Object t e = reference_narrow t (not_false (is_reference t) e)

-- ---- lists

pub any_front : (w : ℕ) (xs ys : List ℕ) → list_any (nat_eq w) xs ≡ true → list_any (nat_eq w) (xs ++ ys) ≡ true
any_front w [] ys e = clash false e refl
any_front w (x ∷ xs) ys e = either (nat_eq w x) (list_any (nat_eq w) xs) e (or_left (nat_eq w x) (list_any (nat_eq w) (xs ++ ys))) (λ i. or_right (nat_eq w x) (list_any (nat_eq w) (xs ++ ys)) (any_front w xs ys i))

pub any_back : (w : ℕ) (xs ys : List ℕ) → list_any (nat_eq w) ys ≡ true → list_any (nat_eq w) (xs ++ ys) ≡ true
any_back w [] ys e = e
any_back w (x ∷ xs) ys e = or_right (nat_eq w x) (list_any (nat_eq w) (xs ++ ys)) (any_back w xs ys e)

front : {A : Type 0} (x : A) (xs ys : List A) → In x xs → In x (xs ++ ys)
front x [] ys i = elim i [ ]
front x (y ∷ xs) ys (here zs) = here (xs ++ ys)
front x (y ∷ xs) ys (there z zs i) = there y (xs ++ ys) (front x xs ys i)

back : {A : Type 0} (x : A) (xs ys : List A) → In x ys → In x (xs ++ ys)
back x [] ys i = i
back x (y ∷ xs) ys i = there y (xs ++ ys) (back x xs ys i)

pub all_in : {A : Type 0} (f : A → Bool) (xs : List A) (x : A) → list_all f xs ≡ true → In x xs → f x ≡ true
all_in f [] x e i = elim i [ ]
all_in f (y ∷ xs) x e (here zs) = and_left (f y) (list_all f xs) e
all_in f (y ∷ xs) x e (there z zs i) = all_in f xs x (and_behind (f y) (list_all f xs) e) i

-- what holds of a wide operand
second : (x : ℕ) → in_operand true x (x + 1) ≡ true
second x = or_right (nat_eq (x + 1) x) (nat_eq (x + 1) (x + 1)) (same_number (x + 1))

alone : (x : ℕ) → list_any (nat_eq x) (first_if true x) ≡ true
alone x = or_left (nat_eq x x) false (same_number x)

-- ---- demands

module _ (f : Form) (all : List (ℕ × Demand)) where
  abbrev pub AllAsked : List (ℕ × Demand) → Type 0
  AllAsked [] = Unit {0}
  AllAsked (d ∷ ds) = IsAsked f all d.0 d.1 × AllAsked ds

  asked_in : (ds : List (ℕ × Demand)) → AllAsked ds → (x : ℕ) (q : Demand) → In (x, q) ds → IsAsked f all x q
  asked_in ds h x q i = at (x, q) ds h i
    where
      at : (d : ℕ × Demand) (ds : List (ℕ × Demand)) → AllAsked ds → In d ds → IsAsked f all d.0 d.1
      at d [] h i = elim i [ ]
      at d (e ∷ ds) h (here zs) = h.0
      at d (e ∷ ds) h (there z zs i) = at d ds h.1 i

  asked_both : (xs ys : List (ℕ × Demand)) → AllAsked xs → AllAsked ys → AllAsked (xs ++ ys)
  asked_both [] ys h k = k
  asked_both (x ∷ xs) ys h k = (h.0, asked_both xs ys h.1 k)

  -- an operand, wide or not
  operand : (b : Bool) (x : ℕ) (q : Demand) → (b ≡ true → list_any (nat_eq x) (wides_read f) ≡ true) → ((r : ℕ) → in_operand b x r ≡ true → reads f r ≡ true) → (reads f x ≡ true → IsAsked f all x q) → IsAsked f all x (wide_or b q)
  operand true x q wide read plain = (wide refl, (read x (in_own true x), read (x + 1) (second x)))
  operand false x q wide read plain = plain (read x (same_number x))

  slot_asked : (s : Slot) (x : ℕ) → (is_wide_slot s ≡ true → list_any (nat_eq x) (wides_read f) ≡ true) → ((r : ℕ) → in_operand (is_wide_slot s) x r ≡ true → reads f r ≡ true) → IsAsked f all x (slot_demand s)
  slot_asked slot.Wide x wide read = (wide refl, (read x (in_own true x), read (x + 1) (second x)))
  slot_asked slot.Word x wide read = read x (same_number x)
  slot_asked slot.Object x wide read = read x (same_number x)

  item_asked : (i : Item) (x : ℕ) → (is_wide_item i ≡ true → list_any (nat_eq x) (wides_read f) ≡ true) → ((r : ℕ) → in_operand (is_wide_item i) x r ≡ true → reads f r ≡ true) → IsAsked f all x (put_item i)
  item_asked item.Wide x wide read = (wide refl, (read x (in_own true x), read (x + 1) (second x)))
  item_asked item.Object x wide read = read x (same_number x)
  item_asked item.Plain x wide read = read x (same_number x)
  item_asked item.Boolean x wide read = read x (same_number x)
  item_asked item.Byte x wide read = read x (same_number x)
  item_asked item.Char x wide read = read x (same_number x)
  item_asked item.Short x wide read = read x (same_number x)

  -- an operand that is never wide
  tested_asked : (b : Bool) (x : ℕ) → reads f x ≡ true → IsAsked f all x (tested b)
  tested_asked true x e = e
  tested_asked false x e = e

  like_asked : (b : Bool) (k : Kind) (x : ℕ) → reads f x ≡ true → IsAsked f all x (second_tested b k)
  like_asked true Zero x e = e
  like_asked true Word x e = e
  like_asked true k x e = e
  like_asked false k x e = e

  fits_asked : (x : ℕ) (ts : List Text) → reads f x ≡ true → AllAsked (map (λ q. (x, q)) (map Fits ts))
  fits_asked x [] e = tt
  fits_asked x (t ∷ ts) e = (e, fits_asked x ts e)

  filled_asked : (t : Text) (xs : List ℕ) → ((r : ℕ) → In r xs → reads f r ≡ true) → AllAsked (map (λ x. (x, Fits t)) xs)
  filled_asked t [] h = tt
  filled_asked t (x ∷ xs) h = (h x (here xs), filled_asked t xs (λ r i. h r (there x xs i)))

  -- arguments
  passed_asked : (ts : List Text) (rs : List ℕ) → length rs ≡ words_of ts → ((r : ℕ) → In r rs → reads f r ≡ true) → ((w : ℕ) → list_any (nat_eq w) (wide_arguments ts rs) ≡ true → list_any (nat_eq w) (wides_read f) ≡ true)
      → ((d : ℕ × Demand) → In d (passed ts rs) → In d all) → ((x r : ℕ) → In (x, Behind r) all → nat_eq x (r + 1) ≡ true) → AllAsked (passed ts rs)
  passed_asked [] rs l read wide inside behind = tt
  passed_asked (t ∷ ts) [] l read wide inside behind = tt
  passed_asked (t ∷ ts) (r ∷ rs) l read wide inside behind = by (is_wide t) l wide inside (passed_asked ts rs) (λ s rs'. passed_asked ts rs')
    where
      by : (b : Bool) → length (r ∷ rs) ≡ (if b then 2 else 1) + words_of ts
          → ((w : ℕ) → list_any (nat_eq w) (elim b as (λ b. List ℕ) [ true ↦ r ∷ wide_arguments ts (drop 1 rs) | false ↦ wide_arguments ts rs ]) ≡ true → list_any (nat_eq w) (wides_read f) ≡ true)
          → ((d : ℕ × Demand) → In d (elim b as (λ b. List (ℕ × Demand)) [ true ↦ passed_wide r rs ++ passed ts (drop 1 rs) | false ↦ (r, Fits t) ∷ passed ts rs ]) → In d all)
          → (length rs ≡ words_of ts → ((r : ℕ) → In r rs → reads f r ≡ true) → ((w : ℕ) → list_any (nat_eq w) (wide_arguments ts rs) ≡ true → list_any (nat_eq w) (wides_read f) ≡ true)
          → ((d : ℕ × Demand) → In d (passed ts rs) → In d all) → ((x r : ℕ) → In (x, Behind r) all → nat_eq x (r + 1) ≡ true) → AllAsked (passed ts rs))
          → (ℕ → (rs : List ℕ) → length rs ≡ words_of ts → ((r : ℕ) → In r rs → reads f r ≡ true) → ((w : ℕ) → list_any (nat_eq w) (wide_arguments ts rs) ≡ true → list_any (nat_eq w) (wides_read f) ≡ true)
          → ((d : ℕ × Demand) → In d (passed ts rs) → In d all) → ((x r : ℕ) → In (x, Behind r) all → nat_eq x (r + 1) ≡ true) → AllAsked (passed ts rs))
          → AllAsked (elim b as (λ b. List (ℕ × Demand)) [ true ↦ passed_wide r rs ++ passed ts (drop 1 rs) | false ↦ (r, Fits t) ∷ passed ts rs ])
      by false l wide inside more next = (read r (here rs), more (omega (arith, l)) (λ s i. read s (there r rs i)) wide (λ d i. inside d (there (r, Fits t) (passed ts rs) i)) behind)
      by true l wide inside more next = two rs l read wide inside next
        where
          two : (rs : List ℕ) → length (r ∷ rs) ≡ 2 + words_of ts → ((x : ℕ) → In x (r ∷ rs) → reads f x ≡ true)
              → ((w : ℕ) → list_any (nat_eq w) (r ∷ wide_arguments ts (drop 1 rs)) ≡ true → list_any (nat_eq w) (wides_read f) ≡ true)
              → ((d : ℕ × Demand) → In d (passed_wide r rs ++ passed ts (drop 1 rs)) → In d all)
              → (ℕ → (rs : List ℕ) → length rs ≡ words_of ts → ((r : ℕ) → In r rs → reads f r ≡ true) → ((w : ℕ) → list_any (nat_eq w) (wide_arguments ts rs) ≡ true → list_any (nat_eq w) (wides_read f) ≡ true)
              → ((d : ℕ × Demand) → In d (passed ts rs) → In d all) → ((x r : ℕ) → In (x, Behind r) all → nat_eq x (r + 1) ≡ true) → AllAsked (passed ts rs))
              → AllAsked (passed_wide r rs ++ passed ts (drop 1 rs))
          two [] l read wide inside next = absurd (omega (arith, l))
          two (s ∷ rs) l read wide inside next =
              let e = eqb-true s (r + 1) (behind s r (inside (s, Behind r) (there (r, Pair) ((s, Behind r) ∷ passed ts rs) (here (passed ts rs))))) in (
                (wide r (or_left (nat_eq r r) (list_any (nat_eq r) (wide_arguments ts rs)) (same_number r)), (read r (here (s ∷ rs)), subst (λ x. reads f x ≡ true) e (read s (there r (s ∷ rs) (here rs))))),
                (
                  inside (r, Pair) (here ((s, Behind r) ∷ passed ts rs)),
                  next s rs (omega (arith, l)) (λ x i. read x (there r (s ∷ rs) (there s rs i))) (λ w i. wide w (or_right (nat_eq w r) (list_any (nat_eq w) (wide_arguments ts rs)) i))
                      (λ d i. inside d (there (r, Pair) ((s, Behind r) ∷ passed ts rs) (there (s, Behind r) (passed ts rs) i))) behind,
                ),
              )

-- ---- the forms

read_args : (xs : List ℕ) (r : ℕ) → In r xs → list_any (λ a. nat_eq a r) xs ≡ true
read_args [] r i = elim i [ ]
read_args (x ∷ xs) r (here zs) = or_left (nat_eq r r) (list_any (λ a. nat_eq a r) xs) (same_number r)
read_args (x ∷ xs) r (there z zs i) = or_right (nat_eq x r) (list_any (λ a. nat_eq a r) xs) (read_args xs r i)

wide_of : (b : Bool) (x : ℕ) → b ≡ true → list_any (nat_eq x) (first_if b x) ≡ true
wide_of b x e = subst (λ v. list_any (nat_eq x) (first_if v x) ≡ true) (sym e) (alone x)

module _ (p : NamedProgram) (c : NamedClass) (m : NamedMethod) (a : Kinds) where
  abbrev asks : Form → List (ℕ × Demand)
  asks f = demands p c m a.registers f

  behind_met : (f : Form) → is_allowed p c m a f ≡ true → (x r : ℕ) → In (x, Behind r) (asks f) → nat_eq x (r + 1) ≡ true
  behind_met f e x r i = all_in (λ d. meets p c a.registers d.0 d.1) (asks f) (x, Behind r) (and_behind (place_allowed a f) (list_all (λ d. meets p c a.registers d.0 d.1) (asks f)) e) i

  right_length : (kind : InvokeKind) (k : MethodKey) (rs : List ℕ) → is_wrong p c m a (form.Invoke kind k rs) ≡ false → length rs ≡ passed_words kind k
  right_length kind k rs e = eqb-true (length rs) (passed_words kind k) (not_false (nat_eq (length rs) (passed_words kind k)) (neither_of (wrong_method p kind k || wrong_super p c kind k) (not (nat_eq (length rs) (passed_words kind k))) e).1)

  -- a receiver, and what is passed with it
  with_receiver : (kind : InvokeKind) (k : MethodKey) (r : ℕ) (rs : List ℕ) → is_static_call kind ≡ false → length (r ∷ rs) ≡ passed_words kind k → is_wide k.class ≡ false
      → wides_read (form.Invoke kind k (r ∷ rs)) ≡ wide_arguments (k.class ∷ k.signature.parameters) (r ∷ rs)
      → asks (form.Invoke kind k (r ∷ rs)) ≡ map (λ q. (r, q)) (receiver_demands p c kind k) ++ passed k.signature.parameters rs
      → AllAsked (form.Invoke kind k (r ∷ rs)) (asks (form.Invoke kind k (r ∷ rs))) (map (λ q. (r, q)) (receiver_demands p c kind k))
      → is_allowed p c m a (form.Invoke kind k (r ∷ rs)) ≡ true
      → AllAsked (form.Invoke kind k (r ∷ rs)) (asks (form.Invoke kind k (r ∷ rs))) (map (λ q. (r, q)) (receiver_demands p c kind k) ++ passed k.signature.parameters rs)
  with_receiver kind k r rs s l n wides are first allowed =
      let f = form.Invoke kind k (r ∷ rs) in
      let words : passed_words kind k ≡ 1 + words_of k.signature.parameters = ap (λ b. (if b then 0 else 1) + words_of k.signature.parameters) s in
      let long : length rs ≡ words_of k.signature.parameters = omega (arith, l, words) in
      asked_both f (asks f) (map (λ q. (r, q)) (receiver_demands p c kind k)) (passed k.signature.parameters rs) first
      (passed_asked f (asks f) k.signature.parameters rs long (λ x i. read_args (r ∷ rs) x (there r rs i))
      (λ w e. ap (list_any (nat_eq w)) (wides ∙ ap (λ b. elim b as (λ b. List ℕ) [ true ↦ r ∷ wide_arguments k.signature.parameters (drop 1 rs) | false ↦ wide_arguments k.signature.parameters rs ]) n) ∙ e)
      (λ d i. subst (In d) (sym are) (back d (map (λ q. (r, q)) (receiver_demands p c kind k)) (passed k.signature.parameters rs) i))
      (behind_met f allowed))

  -- a receiver is asked for by types alone
  receiver_asked : (kind : InvokeKind) (k : MethodKey) (r : ℕ) (rs : List ℕ) (all : List (ℕ × Demand)) → AllAsked (form.Invoke kind k (r ∷ rs)) all (map (λ q. (r, q)) (receiver_demands p c kind k))
  receiver_asked call.Super k r rs all = let f = form.Invoke call.Super k (r ∷ rs) in let e = read_args (r ∷ rs) r (here rs) in (e, fits_asked f all r (found_class (finds_super p c.name k)) e)
  receiver_asked kind k r rs all = (by (is_constructor_name k.name), tt)
    where
      by : (b : Bool) → IsAsked (form.Invoke kind k (r ∷ rs)) all r (if b then Constructed k.class else Fits k.class)
      by true = read_args (r ∷ rs) r (here rs)
      by false = read_args (r ∷ rs) r (here rs)

  call_asked : (kind : InvokeKind) (k : MethodKey) (rs : List ℕ) → is_wide k.class ≡ false → length rs ≡ passed_words kind k → is_allowed p c m a (form.Invoke kind k rs) ≡ true
      → AllAsked (form.Invoke kind k rs) (asks (form.Invoke kind k rs)) (asks (form.Invoke kind k rs))
  call_asked call.Static k rs n l e = let f = form.Invoke call.Static k rs in
      passed_asked f (asks f) k.signature.parameters rs (l ∙ omega arith) (λ x i. read_args rs x i) (λ w h. h) (λ d i. i) (behind_met f e)
  call_asked call.Direct k [] n l e = tt
  call_asked call.Super k [] n l e = tt
  call_asked call.Virtual k [] n l e = tt
  call_asked call.Interface k [] n l e = tt
  call_asked call.Direct k (r ∷ rs) n l e = with_receiver call.Direct k r rs refl l n refl refl (receiver_asked call.Direct k r rs (asks (form.Invoke call.Direct k (r ∷ rs)))) e
  call_asked call.Super k (r ∷ rs) n l e = with_receiver call.Super k r rs refl l n refl refl (receiver_asked call.Super k r rs (asks (form.Invoke call.Super k (r ∷ rs)))) e
  call_asked call.Virtual k (r ∷ rs) n l e = with_receiver call.Virtual k r rs refl l n refl refl (receiver_asked call.Virtual k r rs (asks (form.Invoke call.Virtual k (r ∷ rs)))) e
  call_asked call.Interface k (r ∷ rs) n l e = with_receiver call.Interface k r rs refl l n refl refl (receiver_asked call.Interface k r rs (asks (form.Invoke call.Interface k (r ∷ rs)))) e

  -- an operand of a type that has the width of the form's
  typed_operand : (f : Form) (all : List (ℕ × Demand)) (t : Text) (b : Bool) (x : ℕ) → is_wide t ≡ b → (b ≡ true → list_any (nat_eq x) (wides_read f) ≡ true) → ((r : ℕ) → in_operand b x r ≡ true → reads f r ≡ true) → IsAsked f all x (wide_or (is_wide t) (Fits t))
  typed_operand f all t b x e wide read = subst (λ v. IsAsked f all x (wide_or v (Fits t))) (sym e) (operand f all b x (Fits t) wide read (λ h. h))

  pub all_asked : (f : Form) → HasNarrowClass f → is_allowed p c m a f ≡ true → is_wrong p c m a f ≡ false → AllAsked f (asks f) (asks f)
  all_asked (form.Move slot to from) n e w = let f = form.Move slot to from in (slot_asked f (asks f) slot from (wide_of (is_wide_slot slot) from) (λ r h. h), tt)
  all_asked (form.Return slot from) n e w = let f = form.Return slot from in
      (typed_operand f (asks f) m.signature.result (is_wide_slot slot) from (return_width slot m.signature.result (neither_of (wrong_return slot m.signature.result) (ends_early p c m a) w).0) (wide_of (is_wide_slot slot) from) (λ r h. h), tt)
  all_asked (form.MonitorEnter on) n e w = (same_number on, tt)
  all_asked (form.MonitorExit on) n e w = (same_number on, tt)
  all_asked (form.CheckCast on kind) n e w = (same_number on, tt)
  all_asked (form.InstanceOf to from kind) n e w = (same_number from, tt)
  all_asked (form.ArrayLength to from) n e w = (same_number from, tt)
  all_asked (form.NewArray to size kind) n e w = (same_number size, tt)
  all_asked (form.FilledNewArray kind args) n e w = let f = form.FilledNewArray kind args in filled_asked f (asks f) (item_of kind) args (read_args args)
  all_asked (form.FillArray on width items) n e w = (same_number on, tt)
  all_asked (form.Throw on) n e w = (same_number on, tt)
  all_asked (form.PackedSwitch on first targets) n e w = (same_number on, tt)
  all_asked (form.SparseSwitch on keys targets) n e w = (same_number on, tt)
  all_asked (form.Cmp op to x y) n e w = let f = form.Cmp op to x y in let b = compares_wide op in (
    operand f (asks f) b x Number (λ i. any_front x (first_if b x) (first_if b y) (wide_of b x i)) (λ r h. or_left (in_operand b x r) (in_operand b y r) h) (λ h. h),
    (operand f (asks f) b y Number (λ i. any_back y (first_if b x) (first_if b y) (wide_of b y i)) (λ r h. or_right (in_operand b x r) (in_operand b y r) h) (λ h. h), tt),
  )
  all_asked (form.If test x y target) n e w = let f = form.If test x y target in
      (tested_asked f (asks f) (is_equality test) x (or_left (nat_eq x x) (nat_eq x y) (same_number x)), (like_asked f (asks f) (is_equality test) (kind_at a.registers x) y (or_right (nat_eq y x) (nat_eq y y) (same_number y)), tt))
  all_asked (form.IfZero test x target) n e w = let f = form.IfZero test x target in (tested_asked f (asks f) (is_equality test) x (same_number x), tt)
  all_asked (form.ArrayGet item to array index) n e w = (or_left (nat_eq array array) (nat_eq array index) (same_number array), (or_right (nat_eq index array) (nat_eq index index) (same_number index), tt))
  all_asked (form.ArrayPut item from array index) n e w = let f = form.ArrayPut item from array index in let b = is_wide_item item in (
    item_asked f (asks f) item from (wide_of b from) (λ r h. or_left (in_operand b from r || nat_eq r array) (nat_eq r index) (or_left (in_operand b from r) (nat_eq r array) h)),
    (or_left (in_operand b from array || nat_eq array array) (nat_eq array index) (or_right (in_operand b from array) (nat_eq array array) (same_number array)), (or_right (in_operand b from index || nat_eq index array) (nat_eq index index) (same_number index), tt)),
  )
  all_asked (form.InstanceGet item to on field) n e w = (same_number on, tt)
  all_asked (form.InstancePut item from on field) n e w = let f = form.InstancePut item from on field in let b = is_wide_item item in (
    typed_operand f (asks f) field.kind b from (item_width item field.kind (neither_of (wrong_item item field.kind) (wrong_field p false field) w).0) (wide_of b from) (λ r h. or_left (in_operand b from r) (nat_eq r on) h),
    (or_right (in_operand b from on) (nat_eq on on) (same_number on), tt),
  )
  all_asked (form.StaticPut item from field) n e w = let f = form.StaticPut item from field in let b = is_wide_item item in
      (typed_operand f (asks f) field.kind b from (item_width item field.kind (neither_of (wrong_item item field.kind) (wrong_field p true field) w).0) (wide_of b from) (λ r h. h), tt)
  all_asked (form.Invoke kind method args) n e w = call_asked kind method args n (right_length kind method args w) e
  all_asked (form.Unary op to from) n e w = let f = form.Unary op to from in let b = unary_reads_wide op in (operand f (asks f) b from Number (wide_of b from) (λ r h. h) (λ h. h), tt)
  all_asked (form.Binary op to x y) n e w = let f = form.Binary op to x y in let b = binary_is_wide op in let d = second_is_wide op in (
    operand f (asks f) b x Number (λ i. any_front x (first_if b x) (first_if d y) (wide_of b x i)) (λ r h. or_left (in_operand b x r) (in_operand d y r) h) (λ h. h),
    (operand f (asks f) d y Number (λ i. any_back y (first_if b x) (first_if d y) (wide_of d y i)) (λ r h. or_right (in_operand b x r) (in_operand d y r) h) (λ h. h), tt),
  )
  all_asked (form.Literal op to x value) n e w = (same_number x, tt)
  all_asked f n e w = tt

  -- what a form that is right and allowed asks for it reads
  pub asked_read : (f : Form) → HasNarrowClass f → is_allowed p c m a f ≡ true → is_wrong p c m a f ≡ false → (x : ℕ) (q : Demand) → In (x, q) (demands p c m a.registers f) → IsAsked f (demands p c m a.registers f) x q
  asked_read f n e w x q i = asked_in f (asks f) (asks f) (all_asked f n e w) x q i

-- ---- wides that are moved and written

-- a renaming that keeps the halves of what is read side by side takes a pair that is moved together
pub pair_taken : (r : ℕ → ℕ) (f : Form) → ((w : ℕ) → list_any (nat_eq w) (wides_read f) ≡ true → r (w + 1) ≡ r w + 1) → TakesPair r f
pair_taken r (form.Move slot.Wide to from) h = h from (alone from)
pair_taken r f h = tt

wide_if : (b : Bool) → width_if b ≡ 2 → b ≡ true
wide_if true e = refl
wide_if false e = absurd (omega (arith, e))

-- what is written in two registers is wide
pub pair_written : (f : Form) → width f ≡ 2 → list_any (nat_eq (destination f)) (wides_written f) ≡ true
pair_written (form.Move slot to from) e = wide_of (is_wide_slot slot) to (wide_if (is_wide_slot slot) e)
pair_written (form.MoveResult slot to) e = wide_of (is_wide_slot slot) to (wide_if (is_wide_slot slot) e)
pair_written (form.ConstWide to value) e = alone to
pair_written (form.ArrayGet item to array index) e = wide_of (is_wide_item item) to (wide_if (is_wide_item item) e)
pair_written (form.InstanceGet item to on field) e = wide_of (is_wide_item item) to (wide_if (is_wide_item item) e)
pair_written (form.StaticGet item to field) e = wide_of (is_wide_item item) to (wide_if (is_wide_item item) e)
pair_written (form.Unary op to from) e = wide_of (unary_writes_wide op) to (wide_if (unary_writes_wide op) e)
pair_written (form.Binary op to x y) e = wide_of (binary_is_wide op) to (wide_if (binary_is_wide op) e)
pair_written f e = absurd (omega (arith, e))
