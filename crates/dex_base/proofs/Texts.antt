-- Texts in modified UTF-8: which bytes begin one, and what is read.
use Rattle.std.proofs.Common.{◌≡◌, ℕ, zero, suc, ◌+◌, ◌-◌, ◌/◌, ◌%◌, ◌^◌, ◌<◌, ◌≤◌, ◌⊎◌, inl, inr, List, [], ◌∷◌, ◌++◌, length, take, drop, Result, Ok, Err, refl, sym, ap, subst, ◌∙◌, append_assoc, arith}
use Rattle.std.specs.List.{AllByRecursion, flat_map}
use Rattle.std.proofs.Math.Seq.{take-append-add}
use Rattle.std.proofs.lemmas.Bool.{cases_lt, cases_eq, eq-eqb, ne_eqb}
use Rattle.std.proofs.lemmas.List.{take_at, drop_at, take-append-drop, take-append-le, length-append, length-take, length-drop, append-nil}
use Rattle.dex_base.specs.declared.fault.BaseFault.{BaseFault}
use Rattle.dex_base.specs.declared.fault.BaseFault.TheVariants.{NoMemory, Short, LongLeb, BadText, BadDescriptor}
use Rattle.dex_base.specs.Reading.{◌>>=◌}
use Rattle.dex_base.specs.Decides.{Decides}
use Rattle.dex_base.specs.Mutf8.{unit_bytes, text_bytes, unit_in, text_in, text_at, AreUnits, IsTextAt, BeginsText, NoTextBegins, BadTextAt, Ends, Wrong}
use Rattle.dex_base.proofs.Decides.{ok_is, err_is, not_both}
use Rattle.dex_base.proofs.Units.{IsOne, IsTwo, IsThree, unit_cases, BeginsUnit, NoUnitBegins, UnitRead, IsRead, IsCut, IsWrong, unit_read}

-- No unit's bytes begin another's.
one_first : (u v : ℕ) (x y : List ℕ) → IsOne u → IsOne v ⊎ (IsTwo v ⊎ IsThree v) → unit_bytes u ++ x ≡ unit_bytes v ++ y → (u ≡ v) × (x ≡ y)
one_first u v x y s (inl t) e = let f : u ∷ x ≡ v ∷ y = rw (s.is, t.is) at e in (cc, cc)
one_first u v x y s (inr (inl t)) e = let f : u ∷ x ≡ (192 + v / 64) ∷ (128 + v % 64) ∷ y = rw (s.is, t.is) at e in let h : u ≡ 192 + v / 64 = cc in absurd (omega (arith, s.high))
one_first u v x y s (inr (inr t)) e = let f : u ∷ x ≡ (224 + v / 4096) ∷ (128 + v / 64 % 64) ∷ (128 + v % 64) ∷ y = rw (s.is, t.is) at e in let h : u ≡ 224 + v / 4096 = cc in absurd (omega (arith, s.high))

two_first : (u v : ℕ) (x y : List ℕ) → IsTwo u → IsOne v ⊎ (IsTwo v ⊎ IsThree v) → unit_bytes u ++ x ≡ unit_bytes v ++ y → (u ≡ v) × (x ≡ y)
two_first u v x y s (inl t) e = let f : (192 + u / 64) ∷ (128 + u % 64) ∷ x ≡ v ∷ y = rw (s.is, t.is) at e in let h : 192 + u / 64 ≡ v = cc in absurd (omega (arith, t.high))
two_first u v x y s (inr (inl t)) e =
    let f : (192 + u / 64) ∷ (128 + u % 64) ∷ x ≡ (192 + v / 64) ∷ (128 + v % 64) ∷ y = rw (s.is, t.is) at e in
    let h : 192 + u / 64 ≡ 192 + v / 64 = cc in
    let g : 128 + u % 64 ≡ 128 + v % 64 = cc in
    (omega arith, cc)
two_first u v x y s (inr (inr t)) e =
    let f : (192 + u / 64) ∷ (128 + u % 64) ∷ x ≡ (224 + v / 4096) ∷ (128 + v / 64 % 64) ∷ (128 + v % 64) ∷ y = rw (s.is, t.is) at e in
    let h : 192 + u / 64 ≡ 224 + v / 4096 = cc in
    absurd (omega (arith, s.high))

three_first : (u v : ℕ) (x y : List ℕ) → IsThree u → IsOne v ⊎ (IsTwo v ⊎ IsThree v) → unit_bytes u ++ x ≡ unit_bytes v ++ y → (u ≡ v) × (x ≡ y)
three_first u v x y s (inl t) e = let f : (224 + u / 4096) ∷ (128 + u / 64 % 64) ∷ (128 + u % 64) ∷ x ≡ v ∷ y = rw (s.is, t.is) at e in let h : 224 + u / 4096 ≡ v = cc in absurd (omega (arith, t.high))
three_first u v x y s (inr (inl t)) e =
    let f : (224 + u / 4096) ∷ (128 + u / 64 % 64) ∷ (128 + u % 64) ∷ x ≡ (192 + v / 64) ∷ (128 + v % 64) ∷ y = rw (s.is, t.is) at e in
    let h : 224 + u / 4096 ≡ 192 + v / 64 = cc in
    absurd (omega (arith, t.high))
three_first u v x y s (inr (inr t)) e =
    let f : (224 + u / 4096) ∷ (128 + u / 64 % 64) ∷ (128 + u % 64) ∷ x ≡ (224 + v / 4096) ∷ (128 + v / 64 % 64) ∷ (128 + v % 64) ∷ y = rw (s.is, t.is) at e in
    let h : 224 + u / 4096 ≡ 224 + v / 4096 = cc in
    let g : 128 + u / 64 % 64 ≡ 128 + v / 64 % 64 = cc in
    let k : 128 + u % 64 ≡ 128 + v % 64 = cc in
    (omega arith, cc)

pub one_unit : (u v : ℕ) (x y : List ℕ) → unit_bytes u ++ x ≡ unit_bytes v ++ y → (u ≡ v) × (x ≡ y)
one_unit u v x y e =
    elim (unit_cases u) [
      | inl s ↦ one_first u v x y s (unit_cases v) e
      | inr more ↦ elim more [ inl s ↦ two_first u v x y s (unit_cases v) e | inr s ↦ three_first u v x y s (unit_cases v) e ]
    ]

-- Two texts of as many units whose bytes begin one another are one.
pub one_text : (ss ts x y : List ℕ) → length ss ≡ length ts → flat_map unit_bytes ss ++ x ≡ flat_map unit_bytes ts ++ y → (ss ≡ ts) × (x ≡ y)
one_text [] [] x y len e = (refl, e)
one_text [] (t ∷ ts) x y len e = absurd (omega arith)
one_text (s ∷ ss) [] x y len e = absurd (omega arith)
one_text (s ∷ ss) (t ∷ ts) x y len e =
    let first = one_unit s t (flat_map unit_bytes ss ++ x) (flat_map unit_bytes ts ++ y) (sym (append_assoc (unit_bytes s) (flat_map unit_bytes ss) x) ∙ e ∙ append_assoc (unit_bytes t) (flat_map unit_bytes ts) y) in
    let others = one_text ss ts x y (omega arith) first.1 in
    let head : s ≡ t = first.0 in
    let tail : ss ≡ ts = others.0 in
    (cc, others.1)

text_none : text_bytes [] ≡ 0 ∷ []
unfolding text_bytes
text_none = refl

text_cons : (u : ℕ) (us : List ℕ) → text_bytes (u ∷ us) ≡ unit_bytes u ++ text_bytes us
unfolding text_bytes
text_cons u us = append_assoc (unit_bytes u) (flat_map unit_bytes us) (0 ∷ [])

pub same_text : (ss ts x y : List ℕ) → length ss ≡ length ts → text_bytes ss ++ x ≡ text_bytes ts ++ y → (ss ≡ ts) × (x ≡ y)
unfolding text_bytes
same_text ss ts x y len e =
    let both = one_text ss ts (0 ∷ x) (0 ∷ y) len (sym (append_assoc (flat_map unit_bytes ss) (0 ∷ []) x) ∙ e ∙ append_assoc (flat_map unit_bytes ts) (0 ∷ []) y) in
    let rest : 0 ∷ x ≡ 0 ∷ y = both.1 in
    (both.0, cc)

-- ---- what begins a text, and what does not

ones : ℕ → List ℕ
ones zero = []
ones (suc n) = 1 ∷ ones n

ones_are : (n : ℕ) → AreUnits n (ones n)
unfolding ones
ones_are zero = record { counted = refl; fit = tt }
ones_are (suc n) = let more = ones_are n in record { counted = ap suc more.counted; fit = (omega arith, more.fit) }

AreUnits-cons : (n u : ℕ) (us : List ℕ) → u < 2 ^ 16 → AreUnits n us → AreUnits (suc n) (u ∷ us)
AreUnits-cons n u us fits are = record { counted = ap suc are.counted; fit = (fits, are.fit) }

begins_unit : (n : ℕ) (bytes : List ℕ) → BeginsUnit bytes → BeginsText (suc n) bytes
begins_unit n bytes b = record {
  units = b.unit ∷ ones n;
  rest = b.rest ++ text_bytes (ones n);
  are = AreUnits-cons n b.unit (ones n) b.fits (ones_are n);
  more = omega (arith, b.more, length-append b.rest (text_bytes (ones n)));
  begins = text_cons b.unit (ones n) ∙ ap (λ (xs : List ℕ). xs ++ text_bytes (ones n)) b.begins ∙ append_assoc bytes b.rest (text_bytes (ones n));
}

begins_behind : (n u : ℕ) (bytes : List ℕ) → u < 2 ^ 16 → BeginsText n bytes → BeginsText (suc n) (unit_bytes u ++ bytes)
begins_behind n u bytes fits b = record {
  units = u ∷ b.units;
  rest = b.rest;
  are = AreUnits-cons n u b.units fits b.are;
  more = b.more;
  begins = text_cons u b.units ∙ ap (λ (xs : List ℕ). unit_bytes u ++ xs) b.begins ∙ sym (append_assoc (unit_bytes u) bytes b.rest);
}

none_unit : (n : ℕ) (bytes : List ℕ) → NoUnitBegins bytes → NoTextBegins (suc n) bytes
none_unit n bytes none [] rest are e = omega (arith, are.counted)
none_unit n bytes none (v ∷ vs) rest are e = none v (text_bytes vs) rest are.fit.0 (sym (text_cons v vs) ∙ e)

none_behind : (n u : ℕ) (bytes : List ℕ) → NoTextBegins n bytes → NoTextBegins (suc n) (unit_bytes u ++ bytes)
none_behind n u bytes none [] rest are e = omega (arith, are.counted)
none_behind n u bytes none (v ∷ vs) rest are e =
    let first = one_unit v u (text_bytes vs) (bytes ++ rest) (sym (text_cons v vs) ∙ e ∙ append_assoc (unit_bytes u) bytes rest) in
    none vs rest (record { counted = omega (arith, are.counted); fit = are.fit.1 }) first.1

begins_end : BeginsText 0 []
begins_end = record { units = []; rest = 0 ∷ []; are = record { counted = refl; fit = tt }; more = omega arith; begins = text_none }

none_end : (b : ℕ) → (b ≡ 0 → ⊥) → NoTextBegins 0 (b ∷ [])
none_end b not [] rest are e = let f : 0 ∷ [] ≡ b ∷ rest = sym text_none ∙ e in let g : 0 ≡ b = cc in not (sym g)
none_end b not (v ∷ vs) rest are e = omega (arith, are.counted)

-- the text that is read at the front, or why there is none
pub data TextRead (begin place count : ℕ) (bytes : List ℕ) (read : Result (List ℕ × ℕ) BaseFault) : Type 0 where
  AllRead : (units rest : List ℕ) → AreUnits count units → bytes ≡ text_bytes units ++ rest → read ≡ Ok (units, place + length (text_bytes units)) → TextRead begin place count bytes read
  TextCut : BeginsText count bytes → read ≡ Err (Short begin) → TextRead begin place count bytes read
  TextWrong : (behind : ℕ) → behind < length bytes → BeginsText count (take behind bytes) → NoTextBegins count (take (suc behind) bytes) → read ≡ Err (BadText (place + behind)) → TextRead begin place count bytes read

abbrev with_unit : ℕ → List ℕ × ℕ → List ℕ × ℕ
with_unit u t = (u ∷ t.0, t.1)

-- a unit is read, and what is behind it
text_behind : (begin place count u : ℕ) (rest : List ℕ) (read : Result (List ℕ × ℕ) BaseFault) → u < 2 ^ 16 → TextRead begin (place + length (unit_bytes u)) count rest read
    → TextRead begin place (suc count) (unit_bytes u ++ rest) (read >>= λ t. Ok (with_unit u t))
text_behind begin place count u rest read fits (AllRead units more are e is) =
    AllRead (u ∷ units) more (AreUnits-cons count u units fits are)
    (ap (λ (xs : List ℕ). unit_bytes u ++ xs) e ∙ sym (append_assoc (unit_bytes u) (text_bytes units) more) ∙ ap (λ (xs : List ℕ). xs ++ more) (sym (text_cons u units)))
    (rw is (ap (λ (n : ℕ). Ok (u ∷ units, n)) (omega (arith, ap length (text_cons u units), length-append (unit_bytes u) (text_bytes units)))))
text_behind begin place count u rest read fits (TextCut b is) = TextCut (begins_behind count u rest fits b) (rw is refl)
text_behind begin place count u rest read fits (TextWrong behind inside b none is) =
    let n = length (unit_bytes u) in
    let s : suc (n + behind) ≡ n + suc behind = omega arith in
    TextWrong (n + behind) (omega (arith, inside, length-append (unit_bytes u) rest))
    (rw (take-append-add (unit_bytes u) rest behind) (begins_behind count u (take behind rest) fits b))
    (rw (s, take-append-add (unit_bytes u) rest (suc behind)) (none_behind count u (take (suc behind) rest) none))
    (rw is (ap (λ (m : ℕ). Err (BadText m)) (omega arith)))

text_step : (begin place count : ℕ) (bytes : List ℕ) (read : Result (ℕ × ℕ) BaseFault) → UnitRead begin place bytes read
    → ((n : ℕ) (rest : List ℕ) → TextRead begin n count rest (text_in begin n count rest))
    → TextRead begin place (suc count) bytes (read >>= λ u. text_in begin (place + u.1) count (drop u.1 bytes) >>= λ t. Ok (with_unit u.0 t))
text_step begin place count bytes read (IsRead u rest fits e is) more =
    let n = length (unit_bytes u) in
    let here : drop n bytes ≡ rest = ap (drop n) e ∙ drop_at (unit_bytes u) rest n refl in
    let whole = text_behind begin place count u rest (text_in begin (place + n) count rest) fits (more (place + n) rest) in
    rw (is, here, e) whole
text_step begin place count bytes read (IsCut b is) more = TextCut (begins_unit count bytes b) (rw is refl)
text_step begin place count bytes read (IsWrong behind inside b none is) more =
    TextWrong behind inside (begins_unit count (take behind bytes) b) (none_unit count (take (suc behind) bytes) none) (rw is refl)

pub text_read : (begin place count : ℕ) (bytes : List ℕ) → TextRead begin place count bytes (text_in begin place count bytes)
text_read begin place zero [] = TextCut begins_end refl
text_read begin place zero (b ∷ bs) =
    elim (cases_eq b 0) [
      | inl is ↦ AllRead [] bs (record { counted = refl; fit = tt }) (ap (λ (n : ℕ). n ∷ bs) is ∙ ap (λ (xs : List ℕ). xs ++ bs) (sym text_none))
          (rw is (ap (λ (xs : List ℕ). Ok ([], place + length xs)) (sym text_none)))
      | inr not ↦ TextWrong 0 (omega arith) begins_end (none_end b not) (rw (ne_eqb b 0 not) (ap (λ (n : ℕ). Err (BadText n)) (omega arith)))
    ]
text_read begin place (suc count) bytes = text_step begin place count bytes (unit_in begin place bytes) (unit_read begin place bytes) (λ n rest. text_read begin n count rest)

-- ---- what was written is read, whatever follows it

-- a whole text, and perhaps more, is the front of no other text
past_end : (count : ℕ) (text more : List ℕ) → AreUnits count text → BeginsText count (text_bytes text ++ more) → ⊥
past_end count text more are b =
    let same = same_text b.units text [] (more ++ b.rest) (omega (arith, are.counted, b.are.counted)) (append-nil (text_bytes b.units) ∙ b.begins ∙ append_assoc (text_bytes text) more b.rest) in
    omega (arith, ap length same.1, length-append more b.rest, b.more)

past_front : (n : ℕ) (xs ys : List ℕ) → length xs ≤ n → take n (xs ++ ys) ≡ xs ++ take (n - length xs) ys
past_front n xs ys le =
    let e : n ≡ length xs + (n - length xs) = omega arith in
    ap (λ (m : ℕ). take m (xs ++ ys)) e ∙ take-append-add xs ys (n - length xs)

-- at a whole text nothing is wrong
none_wrong : (count behind : ℕ) (text rest : List ℕ) → AreUnits count text → BeginsText count (take behind (text_bytes text ++ rest)) → NoTextBegins count (take (suc behind) (text_bytes text ++ rest)) → ⊥
none_wrong count behind text rest are b none =
    elim (cases_lt behind (length (text_bytes text))) [
      | inl lt ↦
          let short : take (suc behind) (text_bytes text ++ rest) ≡ take (suc behind) (text_bytes text) = take-append-le (suc behind) (text_bytes text) rest (omega (arith, lt)) in
          none text (drop (suc behind) (text_bytes text)) are (rw short (sym (take-append-drop (suc behind) (text_bytes text))))
      | inr le ↦ past_end count text (take (behind - length (text_bytes text)) rest) are (rw (past_front behind (text_bytes text) rest le) at b)
    ]

abbrev text_to : List ℕ → ℕ → List ℕ × ℕ
text_to units place = (units, place)

text_again : (begin place count : ℕ) (text rest : List ℕ) (read : Result (List ℕ × ℕ) BaseFault) → AreUnits count text → TextRead begin place count (text_bytes text ++ rest) read → read ≡ Ok (text_to text (place + length (text_bytes text)))
text_again begin place count text rest read are (AllRead units more others e is) =
    let same = same_text units text more rest (omega (arith, are.counted, others.counted)) (sym e) in
    is ∙ ap (λ (us : List ℕ). Ok (text_to us (place + length (text_bytes us)))) same.0
text_again begin place count text rest read are (TextCut b is) = absurd (past_end count text rest are b)
text_again begin place count text rest read are (TextWrong behind inside b none is) = absurd (none_wrong count behind text rest are b none)

some_text : (units : List ℕ) → 0 < length (text_bytes units)
unfolding text_bytes
some_text units = omega (arith, length-append (flat_map unit_bytes units) (0 ∷ []))

found_text : (bytes : List ℕ) (at count : ℕ) (read : Result (List ℕ × ℕ) BaseFault) → TextRead at at count (drop at bytes) read → (y : List ℕ × ℕ) → read ≡ Ok y → IsTextAt bytes at count y
found_text bytes at count read (AllRead units more are e is) y h =
    let text = text_bytes units in
    subst (IsTextAt bytes at count) (ok_is (text_to units (at + length text)) y (sym is ∙ h)) (record {
      are = are;
      inside = omega (arith, ap length e, length-append text more, length-drop at bytes, some_text units);
      here = ap (take (length text)) e ∙ take_at text more (length text) refl;
      behind = refl;
    })
found_text bytes at count read (TextCut b is) y h = absurd (not_both (Short at) y (sym is ∙ h))
found_text bytes at count read (TextWrong behind inside b none is) y h = absurd (not_both (BadText (at + behind)) y (sym is ∙ h))

fault_text : (bytes : List ℕ) (at count : ℕ) (read : Result (List ℕ × ℕ) BaseFault) → TextRead at at count (drop at bytes) read → (e : BaseFault) → read ≡ Err e → BadTextAt bytes at count e
fault_text bytes at count read (AllRead units more are e is) fault h = absurd (not_both fault (text_to units (at + length (text_bytes units))) (sym h ∙ is))
fault_text bytes at count read (TextCut b is) fault h = Ends b (err_is fault (Short at) (sym h ∙ is))
fault_text bytes at count read (TextWrong behind inside b none is) fault h = Wrong behind (omega (arith, inside, length-drop at bytes)) b none (err_is fault (BadText (at + behind)) (sym h ∙ is))

-- the bytes at a place, from the text that they spell
stands_at : (bytes : List ℕ) (at count : ℕ) (y : List ℕ × ℕ) → IsTextAt bytes at count y → drop at bytes ≡ text_bytes y.0 ++ drop (length (text_bytes y.0)) (drop at bytes)
stands_at bytes at count y p = sym (take-append-drop (length (text_bytes y.0)) (drop at bytes)) ∙ ap (λ (xs : List ℕ). xs ++ drop (length (text_bytes y.0)) (drop at bytes)) p.here

text_is : (r : List ℕ × ℕ) (place : ℕ) → r.1 ≡ place → r ≡ text_to r.0 place
text_is r place q = ap (λ (m : ℕ). text_to r.0 m) q

clean_text : (bytes : List ℕ) (at count : ℕ) (y : List ℕ × ℕ) (e : BaseFault) → IsTextAt bytes at count y → BadTextAt bytes at count e → ⊥
clean_text bytes at count y e p (Ends b is) = past_end count y.0 (drop (length (text_bytes y.0)) (drop at bytes)) p.are (subst (BeginsText count) (stands_at bytes at count y p) b)
clean_text bytes at count y e p (Wrong behind inside b none is) =
    let here = stands_at bytes at count y p in
    none_wrong count behind y.0 (drop (length (text_bytes y.0)) (drop at bytes)) p.are
    (subst (λ (xs : List ℕ). BeginsText count (take behind xs)) here b)
    (subst (λ (xs : List ℕ). NoTextBegins count (take (suc behind) xs)) here none)

pub is_text : (bytes : List ℕ) (at count : ℕ) → Decides (IsTextAt bytes at count) (BadTextAt bytes at count) (text_at bytes at count)
unfolding text_at
is_text bytes at count =
    let read = text_read at at count (drop at bytes) in
    record {
      found = found_text bytes at count (text_in at at count (drop at bytes)) read;
      again = λ y p.
          let rest = drop (length (text_bytes y.0)) (drop at bytes) in
          ap (text_in at at count) (stands_at bytes at count y p)
          ∙ text_again at at count y.0 rest (text_in at at count (text_bytes y.0 ++ rest)) p.are (text_read at at count (text_bytes y.0 ++ rest))
          ∙ ap Ok (sym (text_is y (at + length (text_bytes y.0)) p.behind));
      fault = fault_text bytes at count (text_in at at count (drop at bytes)) read;
      clean = λ y e h b. clean_text bytes at count y e (found_text bytes at count (text_in at at count (drop at bytes)) read y h) b;
    }

pub text_is_again : (front text rest : List ℕ) (count : ℕ) → AreUnits count text → text_at (front ++ text_bytes text ++ rest) (length front) count ≡ Ok (text_to text (length front + length (text_bytes text)))
text_is_again front text rest count are =
    let bytes = text_bytes text in
    let here : drop (length front) (front ++ bytes ++ rest) ≡ bytes ++ rest = ap (drop (length front)) (append_assoc front bytes rest) ∙ drop_at front (bytes ++ rest) (length front) refl in
    (is_text (front ++ bytes ++ rest) (length front) count).again (text, length front + length bytes) (record {
      are = are;
      inside = omega (arith, length-append (front ++ bytes) rest, length-append front bytes);
      here = ap (take (length bytes)) here ∙ take_at bytes rest (length bytes) refl;
      behind = refl;
    })
