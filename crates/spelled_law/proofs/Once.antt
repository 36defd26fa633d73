-- What stands at a place is one thing alone: numbers, lists, values and annotations.
use Rattle.std.proofs.Common.{◌≡◌, ◌≤◌, ◌<◌, ℕ, zero, suc, ◌+◌, ◌*◌, ℤ, Bool, true, false, cond, ltb, List, [], ◌∷◌, length, take, drop, Result, refl, sym, ap, subst, ◌∙◌, arith}
use Rattle.std.specs.Prelude.{◌==◌}
use Rattle.std.specs.Int.{w32}
use Rattle.std.proofs.lemmas.Bool.{lt-ltb, ltb-true, eqb-true}
use Rattle.lemmas.proofs.Bools.{untrue}
use Rattle.dex_base.specs.declared.fault.BaseFault.{BaseFault}
use Rattle.dex_base.specs.Word.{Is16, Is32}
use Rattle.dex_base.specs.Leb.{IsUlebAt, IsSlebAt, uleb_at, sleb_at}
use Rattle.dex_base.specs.Decides.{Decides, Each, ChainOf}
use Rattle.dex_base.proofs.Decides.{ok_is}
use Rattle.dex_base.proofs.LebReading.{is_uleb, is_sleb}
use Rattle.program_model.specs.declared.value.EncValue.{EncValue}
use Rattle.program_model.specs.declared.value.EncValue.TheVariants as value
use Rattle.program_model.specs.declared.value.Element.{Element}
use Rattle.program_model.specs.declared.value.Note.{Note, roll-Note}
use Rattle.program_model.specs.declared.value.Mark.{Mark}
use Rattle.dex_pools.specs.declared.scalar.TableSizes.{TableSizes}
use Rattle.dex_pools.specs.Value.{numeric, naming, zero_extended}
use Rattle.dex_defs.specs.Values.{tag_at, argument_at, HasFew, AreItems, IsElement, IsNote, IsValueIn, Number, Name, Array, Annotation, Null, Boolean, IsValue, AreValuesOf}
use Rattle.dex_defs.specs.Annotations.{IsMark, IsMarkOf, AreMarksOf, IsSetOf, AreParameterMarksOf, Directory, ArePairs, IsDirectoryOf}
use Rattle.spelled_law.proofs.Values.{with, paired}

-- ---- equal parts

pub two : {A B R : Type 0} (f : A → B → R) {a c : A} {b d : B} → a ≡ c → b ≡ d → f a b ≡ f c d
two f {a = a} {d = d} e g = ap (f a) g ∙ ap (λ x. f x d) e

pub three : {A B C R : Type 0} (f : A → B → C → R) {a d : A} {b e : B} {c g : C} → a ≡ d → b ≡ e → c ≡ g → f a b c ≡ f d e g
three f {a = a} {e = e} {g = g} h i j = two (f a) i j ∙ ap (λ x. f x e g) h

pub four : {A B C D R : Type 0} (f : A → B → C → D → R) {a e : A} {b g : B} {c h : C} {d i : D} → a ≡ e → b ≡ g → c ≡ h → d ≡ i → f a b c d ≡ f e g h i
four f {a = a} {g = g} {h = h} {i = i} j k l m = three (f a) k l m ∙ ap (λ x. f x g h i) j

-- ---- numbers

pub once_32 : (bytes : List ℕ) (at m n : ℕ) → Is32 bytes at m → Is32 bytes at n → m ≡ n
once_32 bytes at m n a b = a.spelled ∙ sym b.spelled

pub once_16 : (bytes : List ℕ) (at m n : ℕ) → Is16 bytes at m → Is16 bytes at n → m ≡ n
once_16 bytes at m n a b = a.spelled ∙ sym b.spelled

once_by : {Y : Type 0} {Is : Y → Type 0} {Has : BaseFault → Type 0} (read : Result Y BaseFault) → Decides Is Has read → (x y : Y) → Is x → Is y → x ≡ y
once_by read d x y a b = ok_is {F = BaseFault} x y (sym (d.again x a) ∙ d.again y b)

pub once_uleb : (bytes : List ℕ) (at : ℕ) (x y : ℕ × ℕ) → IsUlebAt bytes at x → IsUlebAt bytes at y → x ≡ y
once_uleb bytes at x y a b = once_by (uleb_at bytes at) (is_uleb bytes at) x y a b

pub once_sleb : (bytes : List ℕ) (at : ℕ) (x y : ℤ × ℕ) → IsSlebAt bytes at x → IsSlebAt bytes at y → x ≡ y
once_sleb bytes at x y a b = once_by (sleb_at bytes at) (is_sleb bytes at) x y a b

-- a number of which both places are known
pub uleb_parts : (bytes : List ℕ) (at at' m n i j : ℕ) → at ≡ at' → IsUlebAt bytes at (m, i) → IsUlebAt bytes at' (n, j) → (m ≡ n) × (i ≡ j)
uleb_parts bytes at at' m n i j same a b =
    let e : with m i ≡ with n j = once_uleb bytes at (m, i) (n, j) a (subst (λ k. IsUlebAt bytes k (n, j)) (sym same) b) in
    (ap (λ (r : ℕ × ℕ). r.0) e, ap (λ (r : ℕ × ℕ). r.1) e)

-- ---- lists

pub cons_same : {X : Type 0} {x y : X} {xs ys : List X} → x ≡ y → xs ≡ ys → x ∷ xs ≡ y ∷ ys
cons_same e g = two (λ z zs. z ∷ zs) e g

pub each_once : {X : Type 0} (Is : ℕ → X → Type 0) → ((i : ℕ) (x y : X) → Is i x → Is i y → x ≡ y) → (from : ℕ) (xs ys : List X) → length xs ≡ length ys → Each Is from xs → Each Is from ys → xs ≡ ys
each_once Is once from [] [] l a b = refl
each_once Is once from [] (y ∷ ys) l a b = absurd cc
each_once Is once from (x ∷ xs) [] l a b = absurd cc
each_once Is once from (x ∷ xs) (y ∷ ys) l a b = cons_same (once from x y a.0 b.0) (each_once Is once (suc from) xs ys (omega (arith, l)) a.1 b.1)

pub chain_once : {X : Type 0} (Is : ℕ → X × ℕ → Type 0) → ((at : ℕ) (r s : X × ℕ) → Is at r → Is at s → r ≡ s) → (at at' : ℕ) → at ≡ at' → (xs ys : List X) (stop end : ℕ) → length xs ≡ length ys
    → ChainOf Is at xs stop → ChainOf Is at' ys end → (xs ≡ ys) × (stop ≡ end)
chain_once Is once at at' same [] [] stop end l a b = (refl, a ∙ same ∙ sym b)
chain_once Is once at at' same [] (y ∷ ys) stop end l a b = absurd cc
chain_once Is once at at' same (x ∷ xs) [] stop end l a b = absurd cc
chain_once {X = X} Is once at at' same (x ∷ xs) (y ∷ ys) stop end l a b =
    let e : with x a.0 ≡ with y b.0 = once at (x, a.0) (y, b.0) a.1 (subst (λ k. Is k (y, b.0)) (sym same) b.1) in
    let rest = chain_once Is once a.0 b.0 (ap (λ (r : X × ℕ). r.1) e) xs ys stop end (omega (arith, l)) a.2 b.2 in
    (cons_same (ap (λ (r : X × ℕ). r.0) e) rest.0, rest.1)

-- ---- values

abbrev sorted : Bool → Bool → Bool → Bool → Bool → ℕ
sorted a b c d e = cond a 1 (cond b 2 (cond c 3 (cond d 4 (cond e 0 5))))

-- which of its forms a value has by its type
abbrev sort : ℕ → ℕ
sort tag = sorted (tag == 28) (tag == 29) (tag == 30) (tag == 31) (ltb tag 23)

by_tests : (a b c d e g : Bool) → a ≡ false → b ≡ false → c ≡ false → d ≡ false → e ≡ g → sorted a b c d e ≡ sorted false false false false g
by_tests true b c d e g h1 h2 h3 h4 h5 = absurd cc
by_tests false true c d e g h1 h2 h3 h4 h5 = absurd cc
by_tests false false true d e g h1 h2 h3 h4 h5 = absurd cc
by_tests false false false true e g h1 h2 h3 h4 h5 = absurd cc
by_tests false false false false e g h1 h2 h3 h4 h5 = ap (λ (b : Bool). sorted false false false false b) h5

unequal : (m n : ℕ) → (m ≡ n → ⊥) → (m == n) ≡ false
unequal m n other = untrue (m == n) (λ e. other (eqb-true m n e))

unless_below : (m n : ℕ) → n ≤ m → ltb m n ≡ false
unless_below m n h = untrue (ltb m n) (λ e. let less = ltb-true m n e in omega (arith, less, h))

sort_number : (tag : ℕ) → tag < 23 → sort tag ≡ 0
sort_number tag h = by_tests (tag == 28) (tag == 29) (tag == 30) (tag == 31) (ltb tag 23) true
    (unequal tag 28 (λ e. omega (arith, e, h))) (unequal tag 29 (λ e. omega (arith, e, h))) (unequal tag 30 (λ e. omega (arith, e, h))) (unequal tag 31 (λ e. omega (arith, e, h))) (lt-ltb tag 23 h)

sort_name : (tag : ℕ) → 23 ≤ tag → tag < 28 → sort tag ≡ 5
sort_name tag g h = by_tests (tag == 28) (tag == 29) (tag == 30) (tag == 31) (ltb tag 23) false
    (unequal tag 28 (λ e. omega (arith, e, h))) (unequal tag 29 (λ e. omega (arith, e, h))) (unequal tag 30 (λ e. omega (arith, e, h))) (unequal tag 31 (λ e. omega (arith, e, h))) (unless_below tag 23 g)

module _ (bytes : List ℕ) (sizes : TableSizes) (Is : ℕ → EncValue × ℕ → Type 0) (once : (at : ℕ) (r s : EncValue × ℕ) → Is at r → Is at s → r ≡ s) where
  items_once : (at : ℕ) (r s : List EncValue × ℕ) → AreItems bytes Is at r → AreItems bytes Is at s → r ≡ s
  items_once at r s a b =
      let n = uleb_parts bytes at at (length r.0) (length s.0) a.begin b.begin refl a.count b.count in
      let c = chain_once Is once a.begin b.begin n.1 r.0 s.0 r.1 s.1 n.0 a.are b.are in
      paired c.0 c.1

  element_once : (at : ℕ) (r s : Element × ℕ) → IsElement bytes sizes Is at r → IsElement bytes sizes Is at s → r ≡ s
  element_once at r s a b =
      let n = uleb_parts bytes at at r.0.name s.0.name a.mid b.mid refl a.name b.name in
      let v : with r.0.value r.1 ≡ with s.0.value s.1 = once a.mid (r.0.value, r.1) (s.0.value, s.1) a.value (subst (λ k. Is k (s.0.value, s.1)) (sym n.1) b.value) in
      let e : r.0 ≡ s.0 = two element n.0 (ap (λ (x : EncValue × ℕ). x.0) v) in
      paired e (ap (λ (x : EncValue × ℕ). x.1) v)
    where
      element : ℕ → EncValue → Element
      element name value = record { name = name; value = value }

  note_once : (at : ℕ) (r s : Note × ℕ) → IsNote bytes sizes Is at r → IsNote bytes sizes Is at s → r ≡ s
  note_once at r s a b =
      let class = uleb_parts bytes at at a.class b.class a.mid b.mid refl a.is_class b.is_class in
      let n = uleb_parts bytes a.mid b.mid (length a.elements) (length b.elements) a.begin b.begin class.1 a.count b.count in
      let c = chain_once (IsElement bytes sizes Is) element_once a.begin b.begin n.1 a.elements b.elements r.1 s.1 n.0 a.are b.are in
      paired (a.is ∙ two note class.0 c.0 ∙ sym b.is) c.1
    where
      note : ℕ → List Element → Note
      note class elements = roll-Note (record { class = class; elements = elements })

  abbrev Form : ℕ → ℕ → EncValue × ℕ → Type 0
  Form zero at r = (few : List ℕ) × HasFew bytes at few × (r ≡ (numeric (tag_at bytes at) few, at + 1 + length few))
  Form (suc zero) at r = (items : List EncValue) × (stop : ℕ) × AreItems bytes Is (at + 1) (items, stop) × (r ≡ (value.Array items, stop))
  Form (suc (suc zero)) at r = (note : Note) × (stop : ℕ) × IsNote bytes sizes Is (at + 1) (note, stop) × (r ≡ (value.Annotation note, stop))
  Form (suc (suc (suc zero))) at r = r ≡ (value.Null, at + 1)
  Form (suc (suc (suc (suc zero)))) at r = r ≡ (value.Bool (argument_at bytes at == 1), at + 1)
  Form (suc (suc (suc (suc (suc k))))) at r = (few : List ℕ) × HasFew bytes at few × (r ≡ (naming (tag_at bytes at) (zero_extended w32 few), at + 1 + length few))

  formed : (at : ℕ) (r : EncValue × ℕ) → IsValueIn bytes sizes Is at r → Form (sort (tag_at bytes at)) at r
  formed at r (Number few tag low h is) = subst (λ k. Form k at r) (sym (sort_number (tag_at bytes at) low)) (few, h, is)
  formed at r (Name few tag high low h below is) = subst (λ k. Form k at r) (sym (sort_name (tag_at bytes at) high low)) (few, h, is)
  formed at r (Array items stop tag e h is) = subst (λ k. Form k at r) (sym (ap sort e)) (items, stop, h, is)
  formed at r (Annotation note stop tag e h is) = subst (λ k. Form k at r) (sym (ap sort e)) (note, stop, h, is)
  formed at r (Null tag e is) = subst (λ k. Form k at r) (sym (ap sort e)) is
  formed at r (Boolean tag e is) = subst (λ k. Form k at r) (sym (ap sort e)) is

  few_same : (at : ℕ) (few more : List ℕ) → HasFew bytes at few → HasFew bytes at more → few ≡ more
  few_same at few more a b = sym a.here.is ∙ ap (λ n. take n (drop (at + 1) bytes)) (a.many ∙ sym b.many) ∙ b.here.is

  form_once : (k at : ℕ) (r s : EncValue × ℕ) → Form k at r → Form k at s → r ≡ s
  form_once zero at r s a b = a.2 ∙ ap (λ few. with (numeric (tag_at bytes at) few) (at + 1 + length few)) (few_same at a.0 b.0 a.1 b.1) ∙ sym b.2
  form_once (suc zero) at r s a b = a.3 ∙ ap (λ (x : List EncValue × ℕ). with (value.Array x.0) x.1) (items_once (at + 1) (a.0, a.1) (b.0, b.1) a.2 b.2) ∙ sym b.3
  form_once (suc (suc zero)) at r s a b = a.3 ∙ ap (λ (x : Note × ℕ). with (value.Annotation x.0) x.1) (note_once (at + 1) (a.0, a.1) (b.0, b.1) a.2 b.2) ∙ sym b.3
  form_once (suc (suc (suc zero))) at r s a b = a ∙ sym b
  form_once (suc (suc (suc (suc zero)))) at r s a b = a ∙ sym b
  form_once (suc (suc (suc (suc (suc k))))) at r s a b = a.2 ∙ ap (λ few. with (naming (tag_at bytes at) (zero_extended w32 few)) (at + 1 + length few)) (few_same at a.0 b.0 a.1 b.1) ∙ sym b.2

  layer_once : (at : ℕ) (r s : EncValue × ℕ) → IsValueIn bytes sizes Is at r → IsValueIn bytes sizes Is at s → r ≡ s
  layer_once at r s a b = form_once (sort (tag_at bytes at)) at r s (formed at r a) (formed at s b)

pub value_once : (bytes : List ℕ) (sizes : TableSizes) (depth at : ℕ) (r s : EncValue × ℕ) → IsValue bytes sizes depth at r → IsValue bytes sizes depth at s → r ≡ s
value_once bytes sizes zero at r s a b = absurd a
value_once bytes sizes (suc depth) at r s a b = layer_once bytes sizes (IsValue bytes sizes depth) (value_once bytes sizes depth) at r s a b

pub values_once : (bytes : List ℕ) (sizes : TableSizes) (offset : ℕ) (vs ws : List EncValue) → AreValuesOf bytes sizes offset vs → AreValuesOf bytes sizes offset ws → vs ≡ ws
values_once bytes sizes zero vs ws a b = a ∙ sym b
values_once bytes sizes (suc k) vs ws a b = ap (λ (r : List EncValue × ℕ). r.0) (items_once bytes sizes (IsValue bytes sizes 64) (value_once bytes sizes 64) (suc k) (vs, a.stop) (ws, b.stop) a.are b.are)

-- ---- annotations

mark_once : (bytes : List ℕ) (sizes : TableSizes) (at : ℕ) (m n : Mark) → IsMark bytes sizes at m → IsMark bytes sizes at n → m ≡ n
mark_once bytes sizes at m n a b =
    two mark (a.visibility ∙ sym b.visibility)
    (ap (λ (r : Note × ℕ). r.0) (note_once bytes sizes (IsValue bytes sizes 64) (value_once bytes sizes 64) (at + 1) (m.note, a.stop) (n.note, b.stop) a.note b.note))
  where
    mark : ℕ → Note → Mark
    mark visibility note = record { visibility = visibility; note = note }

mark_of_once : (bytes : List ℕ) (sizes : TableSizes) (at i : ℕ) (m n : Mark) → IsMarkOf bytes sizes at i m → IsMarkOf bytes sizes at i n → m ≡ n
mark_of_once bytes sizes at i m n a b = mark_once bytes sizes a.offset m n a.is_mark (subst (λ k. IsMark bytes sizes k n) (once_32 bytes (at + 4 + 4 * i) b.offset a.offset b.is a.is) b.is_mark)

pub marks_once : (bytes : List ℕ) (sizes : TableSizes) (offset : ℕ) (ms ns : List Mark) → AreMarksOf bytes sizes offset ms → AreMarksOf bytes sizes offset ns → ms ≡ ns
marks_once bytes sizes zero ms ns a b = a ∙ sym b
marks_once bytes sizes (suc k) ms ns a b =
    each_once (IsMarkOf bytes sizes (suc k)) (mark_of_once bytes sizes (suc k)) 0 ms ns (once_32 bytes (suc k) (length ms) (length ns) a.count b.count) a.are b.are

set_once : (bytes : List ℕ) (sizes : TableSizes) (at i : ℕ) (ms ns : List Mark) → IsSetOf bytes sizes at i ms → IsSetOf bytes sizes at i ns → ms ≡ ns
set_once bytes sizes at i ms ns a b = marks_once bytes sizes a.offset ms ns a.are (subst (λ k. AreMarksOf bytes sizes k ns) (once_32 bytes (at + 4 + 4 * i) b.offset a.offset b.is a.is) b.are)

pub sets_once : (bytes : List ℕ) (sizes : TableSizes) (offset : ℕ) (ms ns : List (List Mark)) → AreParameterMarksOf bytes sizes offset ms → AreParameterMarksOf bytes sizes offset ns → ms ≡ ns
sets_once bytes sizes zero ms ns a b = a ∙ sym b
sets_once bytes sizes (suc k) ms ns a b =
    each_once (IsSetOf bytes sizes (suc k)) (set_once bytes sizes (suc k)) 0 ms ns (once_32 bytes (suc k) (length ms) (length ns) a.count b.count) a.are b.are

-- ---- directories

abbrev IsPair : List ℕ → ℕ → ℕ → ℕ × ℕ → Type 0
IsPair bytes at i pair = Is32 bytes (at + 8 * i) pair.0 × Is32 bytes (at + 8 * i + 4) pair.1

pairs_once : (bytes : List ℕ) (at at' : ℕ) (ps qs : List (ℕ × ℕ)) → at ≡ at' → length ps ≡ length qs → ArePairs bytes at ps → ArePairs bytes at' qs → ps ≡ qs
pairs_once bytes at at' ps qs same l a b =
    each_once (IsPair bytes at) (λ i x y h g. paired (once_32 bytes (at + 8 * i) x.0 y.0 h.0 g.0) (once_32 bytes (at + 8 * i + 4) x.1 y.1 h.1 g.1)) 0 ps qs l a
    (subst (λ k. ArePairs bytes k qs) (sym same) b)

pub directory_once : (bytes : List ℕ) (offset : ℕ) (d e : Directory) → IsDirectoryOf bytes offset d → IsDirectoryOf bytes offset e → d ≡ e
directory_once bytes zero d e a b = a ∙ sym b
directory_once bytes (suc k) d e a b =
    let at = suc k in
    let fields = once_32 bytes (at + 4) (length d.fields) (length e.fields) a.field_count b.field_count in
    let methods = once_32 bytes (at + 8) (length d.methods) (length e.methods) a.method_count b.method_count in
    let parameters = once_32 bytes (at + 12) (length d.parameters) (length e.parameters) a.parameter_count b.parameter_count in
    four directory (once_32 bytes at d.class e.class a.class b.class)
    (pairs_once bytes (at + 16) (at + 16) d.fields e.fields refl fields a.fields b.fields)
    (pairs_once bytes (at + 16 + 8 * length d.fields) (at + 16 + 8 * length e.fields) d.methods e.methods (ap (λ n. at + 16 + 8 * n) fields) methods a.methods b.methods)
    (pairs_once bytes (at + 16 + 8 * length d.fields + 8 * length d.methods) (at + 16 + 8 * length e.fields + 8 * length e.methods) d.parameters e.parameters
    (two (λ m n. at + 16 + 8 * m + 8 * n) fields methods) parameters a.parameters b.parameters)
  where
    directory : ℕ → List (ℕ × ℕ) → List (ℕ × ℕ) → List (ℕ × ℕ) → Directory
    directory class fields methods parameters = record { class = class; fields = fields; methods = methods; parameters = parameters }
