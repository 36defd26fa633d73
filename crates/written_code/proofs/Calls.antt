-- The registers of calls are read of the units in which they are written.
use Rattle.std.proofs.Common.{◌≡◌, ◌<◌, ◌≤◌, ◌+◌, ◌*◌, ◌-◌, ◌%◌, ◌/◌, ◌^◌, ℕ, suc, Bool, true, false, List, [], ◌∷◌, length, take, refl, sym, ap, subst, ◌∙◌, arith, ltb-true}
use Rattle.std.specs.Prelude.{nat_lt, nat_le, nat_eq, ◌||◌, ◌&&◌, if◌then◌else◌}
use Rattle.std.specs.List.{AllByRecursion, list_all}
use Rattle.std.proofs.lemmas.Bool.{and_parts, leb-true, eqb-true}
use Rattle.insn_set.specs.Spelling.{shortest, fit_nibbles, fit_call, are_adjacent}
use Rattle.insn_set.specs.declared.format.Format.TheVariants.{F35c, F3rc}
use Rattle.insn_set.specs.declared.form.Insn.{Insn}
use Rattle.code_read.specs.declared.fields.Fields.{Fields}
use Rattle.code_read.specs.Fields.{fields}
use Rattle.code_read.specs.Branches.{nibbles_form, registers_from, words_form}
use Rattle.code_write.specs.Fields.{call_fields}
use Rattle.code_write.specs.Units.{nibble_unit, units_in}
use Rattle.written_code.proofs.Fields.{Read, First, first_nibbles, back, some_fields, narrow}
use Rattle.written_code.proofs.Forms.{ACall, Spelt, CallRow, distance}

-- ---- four bits each

record Nibbles (f : Fields) (n number x0 x1 x2 x3 x4 : ℕ) : Type 0 where
  a : f.a ≡ n
  b : f.b ≡ number
  e0 : f.c % 16 ≡ x0
  e1 : f.c / 16 % 16 ≡ x1
  e2 : f.c / 256 % 16 ≡ x2
  e3 : f.c / 4096 ≡ x3
  e4 : f.wide % 16 ≡ x4

abbrev packed : ℕ → ℕ → ℕ → ℕ → ℕ
packed x0 x1 x2 x3 = x0 % 16 + 16 * (x1 % 16) + 256 * (x2 % 16) + 4096 * (x3 % 16)

abbrev nibbles_text : ℕ → ℕ → ℕ → ℕ → ℕ → ℕ → ℕ → ℕ → List ℕ
nibbles_text op n number x0 x1 x2 x3 x4 = nibble_unit op x4 n ∷ (number % 65536) ∷ (packed x0 x1 x2 x3 / 1 % 65536) ∷ []

record FivesRead (op n number x0 x1 x2 x3 x4 : ℕ) : Type 0 where
  f : Fields
  read : Read F35c op (nibbles_text op n number x0 x1 x2 x3 x4) f
  are : Nibbles f n number x0 x1 x2 x3 x4

same_three : (u u' v v' w w' : ℕ) → u ≡ u' → v ≡ v' → w ≡ w' → (u ∷ v ∷ w ∷ []) ≡ (u' ∷ v' ∷ w' ∷ [])
same_three u u' v v' w w' eu ev ew = rw (eu, ev, ew) refl

fives : (op n number x0 x1 x2 x3 x4 : ℕ) → 0 < op → op < 256 → n < 6 → number < 65536 → x0 < 16 → x1 < 16 → x2 < 16 → x3 < 16 → x4 < 16 → (if nat_lt n 5 then 0 else x4) ≡ x4 → packed x0 x1 x2 x3 % 16 ^ n ≡ packed x0 x1 x2 x3
    → FivesRead op n number x0 x1 x2 x3 x4
fives op n number x0 x1 x2 x3 x4 some lt few low l0 l1 l2 l3 l4 fifth four =
    let first : First (nibble_unit op x4 n) op = first_nibbles op x4 n some lt in
    let c : ℕ = packed x0 x1 x2 x3 in
    let small : c < 65536 = omega arith in
    let whole : c / 1 % 65536 ≡ c = omega (arith, small) in
    let same : number % 65536 ≡ number = omega (arith, low) in
    let own : x4 % 16 ≡ x4 = omega (arith, l4) in
    let many : n % 16 ≡ n = omega (arith, few) in
    let high : (op + 256 * (x4 % 16) + 4096 * (n % 16)) / 4096 ≡ n = omega (arith, lt, few) in
    let mid : (op + 256 * (x4 % 16) + 4096 * (n % 16)) / 256 % 16 ≡ x4 = omega (arith, lt, l4) in
    record {
      f = fields n number c x4;
      read = record {
        opcode = first.opcode;
        kind = first.kind;
        long = refl;
        fields_are = some_fields ((op + 256 * (x4 % 16) + 4096 * (n % 16)) / 4096) n (number % 65536) number (c / 1 % 65536) c ((op + 256 * (x4 % 16) + 4096 * (n % 16)) / 256 % 16) x4 high same whole mid;
        again = same_three (op + 256 * (x4 % 16) + 4096 * (n % 16)) (op + 256 * (if nat_lt n 5 then 0 else x4) + 4096 * n) (number % 65536) number (c / 1 % 65536) (c % 16 ^ n) (omega (arith, own, many, fifth)) same (whole ∙ sym four);
        fits = (first.fits, (omega arith, (omega arith, tt)));
      };
      are = record { a = refl; b = refl; e0 = omega (arith, l0); e1 = omega (arith, l0, l1); e2 = omega (arith, l0, l1, l2); e3 = omega (arith, l0, l1, l2, l3); e4 = omega (arith, l4) };
    }

-- the units of a call by nibbles are read as its number and its registers
pub record CallRead (op number : ℕ) (words text : List ℕ) : Type 0 where
  pub f : Fields
  pub read : Read F35c op text f
  pub number_is : f.b ≡ number
  pub few : f.a ≤ 5
  pub words_are : nibbles_form f ≡ words

low_word : (w : ℕ) (ws : List ℕ) → list_all (λ r. nat_lt r 16) (w ∷ ws) ≡ true → (w < 16) × (list_all (λ r. nat_lt r 16) ws ≡ true)
low_word w ws h = let both = and_parts (nat_lt w 16) (list_all (λ r. nat_lt r 16) ws) h in (ltb-true w 16 both.0, both.1)

nibbles_read : (op number : ℕ) (words : List ℕ) → 0 < op → op < 256 → number < 65536 → length words ≤ 5 → list_all (λ r. nat_lt r 16) words ≡ true → CallRead op number words (units_in F35c op (call_fields F35c number words))
nibbles_read op number [] some lt low few h =
    let r = fives op 0 number 0 0 0 0 0 some lt (omega arith) low (omega arith) (omega arith) (omega arith) (omega arith) (omega arith) refl refl in
    record { f = r.f; read = r.read; number_is = r.are.b; few = omega (arith, r.are.a); words_are = ap (λ (n : ℕ). take n ((r.f.c % 16) ∷ (r.f.c / 16 % 16) ∷ (r.f.c / 256 % 16) ∷ (r.f.c / 4096) ∷ (r.f.wide % 16) ∷ [])) r.are.a }
nibbles_read op number (w0 ∷ []) some lt low few h =
    let l0 = low_word w0 [] h in
    let r = fives op 1 number w0 0 0 0 0 some lt (omega arith) low l0.0 (omega arith) (omega arith) (omega arith) (omega arith) refl (omega (arith, l0.0)) in
    record { f = r.f; read = r.read; number_is = r.are.b; few = omega (arith, r.are.a); words_are = ap (λ (n : ℕ). take n ((r.f.c % 16) ∷ (r.f.c / 16 % 16) ∷ (r.f.c / 256 % 16) ∷ (r.f.c / 4096) ∷ (r.f.wide % 16) ∷ [])) r.are.a ∙ rw r.are.e0 refl }
nibbles_read op number (w0 ∷ w1 ∷ []) some lt low few h =
    let l0 = low_word w0 (w1 ∷ []) h in
    let l1 = low_word w1 [] l0.1 in
    let r = fives op 2 number w0 w1 0 0 0 some lt (omega arith) low l0.0 l1.0 (omega arith) (omega arith) (omega arith) refl (omega (arith, l0.0, l1.0)) in
    record { f = r.f; read = r.read; number_is = r.are.b; few = omega (arith, r.are.a); words_are = ap (λ (n : ℕ). take n ((r.f.c % 16) ∷ (r.f.c / 16 % 16) ∷ (r.f.c / 256 % 16) ∷ (r.f.c / 4096) ∷ (r.f.wide % 16) ∷ [])) r.are.a ∙ rw (r.are.e0, r.are.e1) refl }
nibbles_read op number (w0 ∷ w1 ∷ w2 ∷ []) some lt low few h =
    let l0 = low_word w0 (w1 ∷ w2 ∷ []) h in
    let l1 = low_word w1 (w2 ∷ []) l0.1 in
    let l2 = low_word w2 [] l1.1 in
    let r = fives op 3 number w0 w1 w2 0 0 some lt (omega arith) low l0.0 l1.0 l2.0 (omega arith) (omega arith) refl (omega (arith, l0.0, l1.0, l2.0)) in
    record { f = r.f; read = r.read; number_is = r.are.b; few = omega (arith, r.are.a); words_are = ap (λ (n : ℕ). take n ((r.f.c % 16) ∷ (r.f.c / 16 % 16) ∷ (r.f.c / 256 % 16) ∷ (r.f.c / 4096) ∷ (r.f.wide % 16) ∷ [])) r.are.a ∙ rw (r.are.e0, r.are.e1, r.are.e2) refl }
nibbles_read op number (w0 ∷ w1 ∷ w2 ∷ w3 ∷ []) some lt low few h =
    let l0 = low_word w0 (w1 ∷ w2 ∷ w3 ∷ []) h in
    let l1 = low_word w1 (w2 ∷ w3 ∷ []) l0.1 in
    let l2 = low_word w2 (w3 ∷ []) l1.1 in
    let l3 = low_word w3 [] l2.1 in
    let r = fives op 4 number w0 w1 w2 w3 0 some lt (omega arith) low l0.0 l1.0 l2.0 l3.0 (omega arith) refl (omega (arith, l0.0, l1.0, l2.0, l3.0)) in
    record { f = r.f; read = r.read; number_is = r.are.b; few = omega (arith, r.are.a); words_are = ap (λ (n : ℕ). take n ((r.f.c % 16) ∷ (r.f.c / 16 % 16) ∷ (r.f.c / 256 % 16) ∷ (r.f.c / 4096) ∷ (r.f.wide % 16) ∷ [])) r.are.a ∙ rw (r.are.e0, r.are.e1, r.are.e2, r.are.e3) refl }
nibbles_read op number (w0 ∷ w1 ∷ w2 ∷ w3 ∷ w4 ∷ []) some lt low few h =
    let l0 = low_word w0 (w1 ∷ w2 ∷ w3 ∷ w4 ∷ []) h in
    let l1 = low_word w1 (w2 ∷ w3 ∷ w4 ∷ []) l0.1 in
    let l2 = low_word w2 (w3 ∷ w4 ∷ []) l1.1 in
    let l3 = low_word w3 (w4 ∷ []) l2.1 in
    let l4 = low_word w4 [] l3.1 in
    let r = fives op 5 number w0 w1 w2 w3 w4 some lt (omega arith) low l0.0 l1.0 l2.0 l3.0 l4.0 refl (omega (arith, l0.0, l1.0, l2.0, l3.0)) in
    record { f = r.f; read = r.read; number_is = r.are.b; few = omega (arith, r.are.a); words_are = ap (λ (n : ℕ). take n ((r.f.c % 16) ∷ (r.f.c / 16 % 16) ∷ (r.f.c / 256 % 16) ∷ (r.f.c / 4096) ∷ (r.f.wide % 16) ∷ [])) r.are.a ∙ rw (r.are.e0, r.are.e1, r.are.e2, r.are.e3, r.are.e4) refl }
nibbles_read op number (w0 ∷ w1 ∷ w2 ∷ w3 ∷ w4 ∷ w5 ∷ ws) some lt low few h = absurd (omega (arith, few))

-- ---- registers one behind another

adjacent_on : (w v : ℕ) (ws : List ℕ) → are_adjacent (w ∷ v ∷ ws) ≡ true → (v ≡ w + 1) × (are_adjacent (v ∷ ws) ≡ true)
adjacent_on w v ws h = let both = and_parts (nat_eq v (w + 1)) (are_adjacent (v ∷ ws)) h in (eqb-true v (w + 1) both.0, both.1)

adjacent_are : (w : ℕ) (ws : List ℕ) → are_adjacent (w ∷ ws) ≡ true → registers_from w (suc (length ws)) ≡ w ∷ ws
adjacent_are w [] h = refl
adjacent_are w (v ∷ ws) h =
    let both = adjacent_on w v ws h in
    let next : suc w ≡ v = omega (arith, both.0) in
    ap (λ (l : List ℕ). w ∷ l) (ap (λ (k : ℕ). registers_from k (suc (length ws))) next ∙ adjacent_are v ws both.1)

adjacent_low : (w : ℕ) (ws : List ℕ) → are_adjacent (w ∷ ws) ≡ true → AllByRecursion (λ a. a < 65536) (w ∷ ws) → w + length ws < 65536
adjacent_low w [] h a = omega (arith, a.0)
adjacent_low w (v ∷ ws) h a =
    let both = adjacent_on w v ws h in
    omega (arith, both.0, adjacent_low v ws both.1 a.1)

-- ---- both

same_call : (form : ℕ → List ℕ → Insn) (n m : ℕ) (a b : List ℕ) → n ≡ m → a ≡ b → form n a ≡ form m b
same_call form n m a b en ea = rw (en, ea) refl

pub by_nibbles : (x : Insn) (from to op number : ℕ) (words : List ℕ) (form : ℕ → List ℕ → Insn) → CallRow op F35c form nibbles_form (λ f. 5) → number < 65536 → fit_nibbles words ≡ true → F35c ≡ shortest x (distance x from to) → form number words ≡ x
    → Spelt x from to (units_in F35c op (call_fields F35c number words))
by_nibbles x from to op number words form r low fit least is =
    let both = and_parts (nat_le (length words) 5) (list_all (λ n. nat_lt n 16) words) fit in
    let c : CallRead op number words (units_in F35c op (call_fields F35c number words)) = nibbles_read op number words r.some r.small low (leb-true (length words) 5 both.0) both.1 in
    record {
      format = F35c;
      op = op;
      f = c.f;
      read = c.read;
      row = r.row;
      least = least;
      form = ACall r.kind (subst (λ n. c.f.a ≤ n) (sym (r.most_is c.f)) c.few) (sym (r.is c.f ∙ (same_call form c.f.b number (words_form op c.f) words c.number_is (r.words_are c.f ∙ c.words_are) ∙ is)));
    }

pub by_range : (x : Insn) (from to op number : ℕ) (words : List ℕ) (form : ℕ → List ℕ → Insn) → CallRow op F3rc form (λ f. registers_from f.c f.a) (λ f. 65536 - f.c) → number < 65536 → fit_call words ≡ true → fit_nibbles words ≡ false
    → AllByRecursion (λ a. a < 65536) words → F3rc ≡ shortest x (distance x from to) → form number words ≡ x → Spelt x from to (units_in F3rc op (call_fields F3rc number words))
by_range x from to op number [] form r low fit none wide least is = absurd cc
by_range x from to op number (w ∷ ws) form r low fit none wide least is =
    let range : (nat_lt (length (w ∷ ws)) 256 && are_adjacent (w ∷ ws)) ≡ true = ap (λ (b : Bool). b || (nat_lt (length (w ∷ ws)) 256 && are_adjacent (w ∷ ws))) (sym none) ∙ fit in
    let both = and_parts (nat_lt (length (w ∷ ws)) 256) (are_adjacent (w ∷ ws)) range in
    let few : length (w ∷ ws) < 256 = ltb-true (length (w ∷ ws)) 256 both.0 in
    let high : w + length ws < 65536 = adjacent_low w ws both.1 wide in
    let a : length (w ∷ ws) % 256 % 256 ≡ suc (length ws) = omega (arith, few) in
    let b : number % 65536 ≡ number = omega (arith, low) in
    let c : w % 65536 ≡ w = omega (arith, wide.0) in
    let f : Fields = back F3rc (length (w ∷ ws) % 256) number w in
    let words : words_form op f ≡ w ∷ ws = r.words_are f ∙ (ap (λ (k : ℕ). registers_from k (length (w ∷ ws) % 256 % 256)) c ∙ (ap (λ (k : ℕ). registers_from w k) a ∙ adjacent_are w ws both.1)) in
    record {
      format = F3rc;
      op = op;
      f = f;
      read = narrow op (length (w ∷ ws) % 256) number w r.some r.small (omega (arith, low)) F3rc tt;
      row = r.row;
      least = least;
      form = ACall r.kind (subst (λ n. f.a ≤ n) (sym (r.most_is f)) (omega (arith, a, c, high))) (sym (r.is f ∙ (same_call form (number % 65536) number (words_form op f) (w ∷ ws) b words ∙ is)));
    }
