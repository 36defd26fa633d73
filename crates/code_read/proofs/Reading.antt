-- Instructions and regions, one after the other, as loops read them.
use Rattle.std.proofs.Common.{◌≡◌, ℕ, zero, suc, ◌≤◌, ◌<◌, ◌+◌, ◌-◌, List, [], ◌∷◌, ◌++◌, length, drop, get_or, refl, sym, ap, subst, ◌∙◌, append_assoc, arith}
use Rattle.std.specs.Prelude.{Bool, true, false, nat_lt, cond, IsTrue, Option, Some, None, Result, Ok, Err}
use Rattle.std.proofs.lemmas.Bool.{cond-true, cond-false, lt-ltb, le-ltb}
use Rattle.std.proofs.lemmas.List.{append-nil, drop_more, drop_all}
use Rattle.dex_base.specs.Reading.{◌>>=◌, FailsIf, Gives}
use Rattle.insn_set.specs.declared.form.Insn.{Insn}
use Rattle.program_model.specs.declared.body.Region.{Region}
use Rattle.program_model.specs.declared.limits.Counted.TheVariants.{Cells}
use Rattle.code_read.specs.declared.fault.CodeFault.{CodeFault}
use Rattle.code_read.specs.declared.fault.CodeFault.TheVariants.{NoMemory}
use Rattle.code_read.specs.declared.sizes.Sizes.{Sizes}
use Rattle.code_read.specs.Code.{placed}
use Rattle.code_read.specs.Decoded.{entries_at, check_payloads, checked_at, insns_from}
use Rattle.code_read.specs.Fault.{is_free, passed}
use Rattle.code_read.specs.Handlers.{caught_count}
use Rattle.code_read.specs.Regions.{region_at, regions_from, keep}
use Rattle.code_read.specs.Sweep.{Places}

-- ---- payloads

abbrev Checked : Type 0
Checked = Result (Unit {0}) CodeFault

pub checks_on : (places : Places) (left i n : ℕ) (starts : List ℕ) (total : Checked) → check_payloads places left (drop i starts) ≡ total → i < length starts → entries_at places (get_or starts i 0) ≡ Ok n → n ≤ left
    → check_payloads places (left - n) (drop (i + 1) starts) ≡ total
checks_on places left i n starts total h lt is le =
    let d = drop_more starts i 0 lt in
    let one = ap (λ (xs : List ℕ). check_payloads places left xs) d in
    let two = ap (λ (r : Result ℕ CodeFault). r >>= λ n. cond (nat_lt left n) (Err (passed Cells)) (check_payloads places (left - n) (drop (i + 1) starts))) is in
    let three : cond (nat_lt left n) (Err (passed Cells)) (check_payloads places (left - n) (drop (i + 1) starts)) ≡ check_payloads places (left - n) (drop (i + 1) starts) = cond-false (nat_lt left n) _ _ (le-ltb left n le) in
    sym (one ∙ two ∙ three) ∙ h

pub checks_pass : (places : Places) (left i n : ℕ) (starts : List ℕ) (total : Checked) → check_payloads places left (drop i starts) ≡ total → i < length starts → entries_at places (get_or starts i 0) ≡ Ok n → left < n → Err (passed Cells) ≡ total
checks_pass places left i n starts total h lt is le =
    let d = drop_more starts i 0 lt in
    let one = ap (λ (xs : List ℕ). check_payloads places left xs) d in
    let two = ap (λ (r : Result ℕ CodeFault). r >>= λ n. cond (nat_lt left n) (Err (passed Cells)) (check_payloads places (left - n) (drop (i + 1) starts))) is in
    let three : cond (nat_lt left n) (Err (passed Cells)) (check_payloads places (left - n) (drop (i + 1) starts)) ≡ Err (passed Cells) = cond-true (nat_lt left n) _ _ (lt-ltb left n le) in
    sym (one ∙ two ∙ three) ∙ h

pub checks_fail : (places : Places) (left i : ℕ) (starts : List ℕ) (total : Checked) (e : CodeFault) → check_payloads places left (drop i starts) ≡ total → i < length starts → entries_at places (get_or starts i 0) ≡ Err e → Err e ≡ total
checks_fail places left i starts total e h lt is =
    let d = drop_more starts i 0 lt in
    let one = ap (λ (xs : List ℕ). check_payloads places left xs) d in
    let two = ap (λ (r : Result ℕ CodeFault). r >>= λ n. cond (nat_lt left n) (Err (passed Cells)) (check_payloads places (left - n) (drop (i + 1) starts))) is in
    sym (one ∙ two) ∙ h

pub checks_end : (places : Places) (left i : ℕ) (starts : List ℕ) (total : Checked) → check_payloads places left (drop i starts) ≡ total → length starts ≤ i → Ok tt ≡ total
checks_end places left i starts total h le = sym (ap (λ (xs : List ℕ). check_payloads places left xs) (drop_all i starts le)) ∙ h

-- ---- instructions

abbrev pub behind : {X : Type 0} → List X → Result (List X) CodeFault → Result (List X) CodeFault
behind front read = read >>= λ xs. Ok (front ++ xs)

behind_one : {X : Type 0} (front : List X) (x : X) (read : Result (List X) CodeFault) → behind front (read >>= λ xs. Ok (x ∷ xs)) ≡ behind (front ++ x ∷ []) read
behind_one front x (Ok xs) = ap Ok (sym (append_assoc front (x ∷ []) xs))
behind_one front x (Err f) = refl

behind_none : {X : Type 0} (read : Result (List X) CodeFault) → behind [] read ≡ read
behind_none (Ok xs) = refl
behind_none (Err e) = refl

pub record ReadsInsns (places : Places) (sizes : Sizes) (front : List Insn) (rest : List ℕ) (total : Result (List Insn) CodeFault) : Type 0 where
  pub so_far : behind front (insns_from places sizes rest) ≡ total

pub insns_begin : (places : Places) (sizes : Sizes) (front : List Insn) (starts : List ℕ) → front ≡ [] → ReadsInsns places sizes front (drop 0 starts) (insns_from places sizes starts)
insns_begin places sizes front starts e = record { so_far = ap (λ (xs : List Insn). behind xs (insns_from places sizes starts)) e ∙ behind_none (insns_from places sizes starts) }

pub insns_go_on : (places : Places) (sizes : Sizes) (front longer : List Insn) (starts : List ℕ) (i : ℕ) (insn : Insn) (total : Result (List Insn) CodeFault) → ReadsInsns places sizes front (drop i starts) total
    → i < length starts → checked_at places sizes (get_or starts i 0) ≡ Ok insn → longer ≡ front ++ insn ∷ [] → ReadsInsns places sizes longer (drop (i + 1) starts) total
insns_go_on places sizes front longer starts i insn total r lt is e =
    let d = ap (λ (xs : List ℕ). insns_from places sizes xs) (drop_more starts i 0 lt) in
    let one = ap (λ (r : Result Insn CodeFault). r >>= λ insn. insns_from places sizes (drop (i + 1) starts) >>= λ insns. Ok (insn ∷ insns)) is in
    rw e (record { so_far = sym (behind_one front insn (insns_from places sizes (drop (i + 1) starts))) ∙ ap (behind front) (sym (d ∙ one)) ∙ r.so_far })

pub insns_fail : (places : Places) (sizes : Sizes) (front : List Insn) (starts : List ℕ) (i : ℕ) (free : Bool) (e : CodeFault) (total : Result (List Insn) CodeFault) → ReadsInsns places sizes front (drop i starts) total
    → i < length starts → FailsIf free e (checked_at places sizes (get_or starts i 0)) → FailsIf free e total
insns_fail places sizes front starts i true e total r lt is = tt
insns_fail places sizes front starts i false e total r lt is =
    let d = ap (λ (xs : List ℕ). insns_from places sizes xs) (drop_more starts i 0 lt) in
    let one = ap (λ (r : Result Insn CodeFault). r >>= λ insn. insns_from places sizes (drop (i + 1) starts) >>= λ insns. Ok (insn ∷ insns)) is in
    sym r.so_far ∙ ap (behind front) (d ∙ one)

abbrev okay : {X : Type 0} → List X → Result (List X) CodeFault
okay xs = Ok xs

pub insns_end : (places : Places) (sizes : Sizes) (front : List Insn) (starts : List ℕ) (i : ℕ) (total : Result (List Insn) CodeFault) → ReadsInsns places sizes front (drop i starts) total → length starts ≤ i → total ≡ Ok front
insns_end places sizes front starts i total r le =
    let d = ap (λ (xs : List ℕ). behind front (insns_from places sizes xs)) (drop_all i starts le) in
    sym r.so_far ∙ d ∙ ap okay (append-nil front)

-- ---- regions

pub record ReadsRegions (tries lists : List ℕ) (types : ℕ) (places : Places) (left_items place from left : ℕ) (front : List Region) (total : Result (List Region) CodeFault) : Type 0 where
  pub so_far : behind front (regions_from tries lists types places left_items place from left) ≡ total

pub regions_begin : (tries lists : List ℕ) (types : ℕ) (places : Places) (count left : ℕ) (front : List Region) → front ≡ [] → ReadsRegions tries lists types places (count - 0) 0 0 left front (regions_from tries lists types places count 0 0 left)
regions_begin tries lists types places count left front e =
    let k : count - 0 ≡ count = omega arith in
    rw k (record { so_far = ap (λ (xs : List Region). behind xs (regions_from tries lists types places count 0 0 left)) e ∙ behind_none (regions_from tries lists types places count 0 0 left) })

step : (tries lists : List ℕ) (types : ℕ) (places : Places) (count place from left : ℕ) (read : Result (Option Region) CodeFault) → place < count → region_at tries lists types places place from left ≡ read
    → regions_from tries lists types places (count - place) place from left ≡ (read >>= λ kept. keep kept (λ f l. regions_from tries lists types places (count - (place + 1)) (place + 1) f l) from left)
step tries lists types places count place from left read lt is =
    let k : count - place ≡ suc (count - (place + 1)) = omega arith in
    let j : suc place ≡ place + 1 = omega arith in
    ap (λ (n : ℕ). regions_from tries lists types places n place from left) k
    ∙ ap (λ (r : Result (Option Region) CodeFault). r >>= λ kept. keep kept (λ f l. regions_from tries lists types places (count - (place + 1)) (suc place) f l) from left) is
    ∙ ap (λ (p : ℕ). read >>= λ kept. keep kept (λ f l. regions_from tries lists types places (count - (place + 1)) p f l) from left) j

pub regions_skip : (tries lists : List ℕ) (types : ℕ) (places : Places) (count place from left : ℕ) (front : List Region) (total : Result (List Region) CodeFault) → ReadsRegions tries lists types places (count - place) place from left front total
    → place < count → region_at tries lists types places place from left ≡ Ok None → ReadsRegions tries lists types places (count - (place + 1)) (place + 1) from left front total
regions_skip tries lists types places count place from left front total r lt is =
    record { so_far = sym (ap (behind front) (step tries lists types places count place from left (Ok None) lt is)) ∙ r.so_far }

pub regions_go_on : (tries lists : List ℕ) (types : ℕ) (places : Places) (count place from left least : ℕ) (front longer : List Region) (region : Region) (total : Result (List Region) CodeFault) → ReadsRegions tries lists types places (count - place) place from left front total
    → place < count → region_at tries lists types places place from left ≡ Ok (Some region) → least ≡ left - caught_count region.handlers region.rest → longer ≡ front ++ region ∷ [] → ReadsRegions tries lists types places (count - (place + 1)) (place + 1) region.end least longer total
regions_go_on tries lists types places count place from left least front longer region total r lt is l e =
    rw (e, l) (record {
      so_far = sym (behind_one front region (regions_from tries lists types places (count - (place + 1)) (place + 1) region.end (left - caught_count region.handlers region.rest)))
          ∙ sym (ap (behind front) (step tries lists types places count place from left (Ok (Some region)) lt is)) ∙ r.so_far;
    })

pub regions_fail : (tries lists : List ℕ) (types : ℕ) (places : Places) (count place from left : ℕ) (front : List Region) (free : Bool) (e : CodeFault) (total : Result (List Region) CodeFault) → ReadsRegions tries lists types places (count - place) place from left front total
    → place < count → FailsIf free e (region_at tries lists types places place from left) → FailsIf free e total
regions_fail tries lists types places count place from left front true e total r lt is = tt
regions_fail tries lists types places count place from left front false e total r lt is =
    sym r.so_far ∙ ap (behind front) (step tries lists types places count place from left (Err e) lt is)

pub regions_end : (tries lists : List ℕ) (types : ℕ) (places : Places) (count place from left : ℕ) (front : List Region) (total : Result (List Region) CodeFault) → ReadsRegions tries lists types places (count - place) place from left front total → count ≤ place → total ≡ Ok front
regions_end tries lists types places count place from left front total r le =
    let k : count - place ≡ 0 = omega arith in
    sym r.so_far ∙ ap (λ (n : ℕ). behind front (regions_from tries lists types places n place from left)) k ∙ ap okay (append-nil front)

-- ---- a fault of the regions

by_free : {X : Type 0} (view : X → List Region) (starts : List ℕ) (insns : List Insn) (read : Result (List Region) CodeFault) (fault : CodeFault) (result : Result X CodeFault) (b : Bool) → is_free fault ≡ b
    → FailsIf b fault read → (IsTrue b → result ≡ Err NoMemory) → Gives is_free view result (placed starts insns (Err fault)) → Gives is_free view result (placed starts insns read)
by_free view starts insns read fault result true is fails gone gives = rw (gone refl) tt
by_free view starts insns read fault result false is fails gone gives = rw fails gives

pub fault_through : {X : Type 0} (view : X → List Region) (starts : List ℕ) (insns : List Insn) (read : Result (List Region) CodeFault) (fault : CodeFault) (result : Result X CodeFault)
    → FailsIf (is_free fault) fault read → (IsTrue (is_free fault) → result ≡ Err NoMemory) → Gives is_free view result (placed starts insns (Err fault)) → Gives is_free view result (placed starts insns read)
fault_through view starts insns read fault result fails gone gives = by_free view starts insns read fault result (is_free fault) refl fails gone gives
