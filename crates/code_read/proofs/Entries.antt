-- Entries read one after the other, as a loop does that has so many left.
use Rattle.std.proofs.Common.{◌≡◌, ℕ, zero, suc, ◌-◌, ◌≤◌, ◌<◌, ◌+◌, List, [], ◌∷◌, ◌++◌, drop, get_or, refl, sym, ap, ◌∙◌, append_assoc, arith}
use Rattle.std.proofs.lemmas.List.{append-nil}
use Rattle.std.specs.Prelude.{Bool, true, false, ◌&&◌, ◌/◌, ◌%◌, ℤ}
use Rattle.std.specs.Int.Signed.{lt_z}
use Rattle.insn_set.specs.Spelling.{keys_ascend}
use Rattle.code_read.specs.Branches.{registers_from}
use Rattle.code_read.specs.Payloads.{entries, bytes_in, keys_in, signed_in}

-- the entries read before, and those that are left
pub record Reads {X : Type 0} (f : List ℕ → X) (width left : ℕ) (front : List X) (rest : List ℕ) (all : List X) : Type 0 where
  pub so_far : front ++ entries f width left rest ≡ all

pub begins : {X : Type 0} (f : List ℕ → X) (width count : ℕ) (front : List X) (units : List ℕ) → front ≡ [] → Reads f width count front units (entries f width count units)
begins f width count front units e = record { so_far = ap (λ xs. xs ++ entries f width count units) e }

pub goes_on : {X : Type 0} (f : List ℕ → X) (width left : ℕ) (front longer : List X) (rest behind : List ℕ) (all : List X)
    → Reads f width left front rest all → 0 < left → longer ≡ front ++ f rest ∷ [] → behind ≡ drop width rest → Reads f width (left - 1) longer behind all
goes_on f width zero front longer rest behind all r lt e b = absurd (omega (arith, lt))
goes_on f width (suc left) front longer rest behind all r lt e b =
    let k : suc left - 1 ≡ left = omega arith in
    record { so_far = rw (e, b, k) (append_assoc front (f rest ∷ []) (entries f width left (drop width rest)) ∙ r.so_far) }

pub is_done : {X : Type 0} (f : List ℕ → X) (width left : ℕ) (front : List X) (rest : List ℕ) (all : List X) → Reads f width left front rest all → left ≤ 0 → front ≡ all
is_done f width zero front rest all r le = sym (append-nil front) ∙ r.so_far
is_done f width (suc left) front rest all r le = absurd (omega (arith, le))

-- ---- keys

pub keys_go_on : (left : ℕ) (rest behind : List ℕ) (answer : Bool) → 1 < left → keys_ascend (keys_in left rest) ≡ answer → behind ≡ drop 2 rest → lt_z (signed_in rest) (signed_in behind) ≡ true → keys_ascend (keys_in (left - 1) behind) ≡ answer
keys_go_on zero rest behind answer lt so_far b h = absurd (omega (arith, lt))
keys_go_on (suc zero) rest behind answer lt so_far b h = absurd (omega (arith, lt))
keys_go_on (suc (suc n)) rest behind answer lt so_far b h =
    let k : suc (suc n) - 1 ≡ suc n = omega arith in
    let below : lt_z (signed_in rest) (signed_in (drop 2 rest)) ≡ true = rw b at h in
    rw (b, k) (sym (ap (λ (t : Bool). t && keys_ascend (keys_in (suc n) (drop 2 rest))) below) ∙ so_far)

pub keys_stop : (left : ℕ) (rest behind : List ℕ) (answer : Bool) → 1 < left → keys_ascend (keys_in left rest) ≡ answer → behind ≡ drop 2 rest → lt_z (signed_in rest) (signed_in behind) ≡ false → false ≡ answer
keys_stop zero rest behind answer lt so_far b h = absurd (omega (arith, lt))
keys_stop (suc zero) rest behind answer lt so_far b h = absurd (omega (arith, lt))
keys_stop (suc (suc n)) rest behind answer lt so_far b h =
    let above : lt_z (signed_in rest) (signed_in (drop 2 rest)) ≡ false = rw b at h in
    sym (ap (λ (t : Bool). t && keys_ascend (keys_in (suc n) (drop 2 rest))) above) ∙ so_far

pub keys_end : (left : ℕ) (rest : List ℕ) (answer : Bool) → left ≤ 1 → keys_ascend (keys_in left rest) ≡ answer → true ≡ answer
keys_end zero rest answer le so_far = so_far
keys_end (suc zero) rest answer le so_far = so_far
keys_end (suc (suc n)) rest answer le so_far = absurd (omega (arith, le))

-- ---- bytes

pub record ReadsBytes (left : ℕ) (front rest all : List ℕ) : Type 0 where
  pub so_far : front ++ bytes_in left rest ≡ all

pub bytes_begin : (count : ℕ) (front units : List ℕ) → front ≡ [] → ReadsBytes count front units (bytes_in count units)
bytes_begin count front units e = record { so_far = ap (λ xs. xs ++ bytes_in count units) e }

pub bytes_go_on : (left : ℕ) (front one two rest behind all : List ℕ) (unit : ℕ) → ReadsBytes left front rest all → 1 < left → unit ≡ get_or rest 0 0
    → one ≡ front ++ (unit % 256) ∷ [] → two ≡ one ++ (unit / 256) ∷ [] → behind ≡ drop 1 rest → ReadsBytes (left - 2) two behind all
bytes_go_on zero front one two rest behind all unit r lt u e f b = absurd (omega (arith, lt))
bytes_go_on (suc zero) front one two rest behind all unit r lt u e f b = absurd (omega (arith, lt))
bytes_go_on (suc (suc n)) front one two rest behind all unit r lt u e f b =
    let k : suc (suc n) - 2 ≡ n = omega arith in
    rw (f, e, b, k, u) (record {
      so_far = append_assoc (front ++ (get_or rest 0 0 % 256) ∷ []) ((get_or rest 0 0 / 256) ∷ []) (bytes_in n (drop 1 rest))
          ∙ append_assoc front ((get_or rest 0 0 % 256) ∷ []) ((get_or rest 0 0 / 256) ∷ bytes_in n (drop 1 rest)) ∙ r.so_far;
    })

pub bytes_end : (left : ℕ) (front rest all : List ℕ) → ReadsBytes left front rest all → left ≡ 0 → front ≡ all
bytes_end zero front rest all r e = sym (append-nil front) ∙ r.so_far
bytes_end (suc n) front rest all r e = absurd (omega (arith, e))

pub bytes_odd : (left : ℕ) (front longer rest all : List ℕ) (unit : ℕ) → ReadsBytes left front rest all → left ≤ 1 → 0 < left → unit ≡ get_or rest 0 0 → longer ≡ front ++ (unit % 256) ∷ [] → longer ≡ all
bytes_odd zero front longer rest all unit r le lt u e = absurd (omega (arith, lt))
bytes_odd (suc zero) front longer rest all unit r le lt u e = rw (e, u) r.so_far
bytes_odd (suc (suc n)) front longer rest all unit r le lt u e = absurd (omega (arith, le))

-- ---- registers

pub record ReadsRegisters (register left : ℕ) (front all : List ℕ) : Type 0 where
  pub so_far : front ++ registers_from register left ≡ all

pub registers_begin : (first count : ℕ) (front : List ℕ) → front ≡ [] → ReadsRegisters (first + 0) (count - 0) front (registers_from first count)
registers_begin first count front e = let k : first + 0 ≡ first = omega arith in let j : count - 0 ≡ count = omega arith in rw (k, j) (record { so_far = ap (λ xs. xs ++ registers_from first count) e })

pub registers_go_on : (first count place : ℕ) (front longer all : List ℕ) → ReadsRegisters (first + place) (count - place) front all → place < count → longer ≡ front ++ (first + place) ∷ [] → ReadsRegisters (first + (place + 1)) (count - (place + 1)) longer all
registers_go_on first count place front longer all r lt e =
    let k : count - place ≡ suc (count - (place + 1)) = omega arith in
    let j : first + (place + 1) ≡ suc (first + place) = omega arith in
    let so : front ++ registers_from (first + place) (suc (count - (place + 1))) ≡ all = rw k at r.so_far in
    rw (j, e) (record { so_far = append_assoc front ((first + place) ∷ []) (registers_from (suc (first + place)) (count - (place + 1))) ∙ so })

pub registers_end : (first count place : ℕ) (front all : List ℕ) → ReadsRegisters (first + place) (count - place) front all → count ≤ place → front ≡ all
registers_end first count place front all r le =
    let k : count - place ≡ 0 = omega arith in
    let so : front ++ registers_from (first + place) 0 ≡ all = rw k at r.so_far in
    sym (append-nil front) ∙ so
