-- The code of a method that is read: its units, and its body.
use Rattle.std.proofs.Common.{◌≡◌, ℕ, zero, suc, ◌<◌, ◌^◌, ◌+◌, ◌*◌, true, List, [], ◌∷◌, length, take, drop, Ok, refl, sym, ap, subst, arith}
use Rattle.std.specs.Prelude.{slice_index}
use Rattle.std.specs.Int.{w16, from_le_bytes}
use Rattle.std.proofs.Math.Nat.{min-le_left}
use Rattle.dex_base.specs.Reading.{each}
use Rattle.dex_base.specs.Word.{Is16, u16_at}
use Rattle.dex_base.proofs.Words.{is_16}
use Rattle.program_model.specs.BodyRules.{body_fits}
use Rattle.program_model.specs.declared.body.Body.{Body}
use Rattle.program_model.specs.declared.program.Program.{Program}
use Rattle.code_read.specs.Code.{check_targets, check_flow, placed, body, code_of}
use Rattle.code_read.specs.Code as code
use Rattle.code_read.specs.Decoded.{check_payloads, insns_of}
use Rattle.code_read.specs.Regions.{regions_of}
use Rattle.code_read.specs.Sweep.{Places, sweep_of}
use Rattle.code_read.specs.declared.sizes.Sizes.{Sizes}
use Rattle.dex_pools.proofs.Finding.{finds, raised}
use Rattle.dex_read.specs.Code.{gap, item_at, units_at, body_at, sizes_for, of_code}
use Rattle.dex_read.specs.Faults.{of_base}
use Rattle.dex_read.specs.Header.{need_at}
use Rattle.dex_read.specs.Word.{half_at, word_at}
use Rattle.dex_read.specs.declared.code.CodeItem.{CodeItem}
use Rattle.read_laws.specs.Tables.{AreWithin}
use Rattle.read_laws.proofs.BodyFits.{fits}
use Rattle.read_laws.proofs.BodyParts.{Whole, whole_of}
use Rattle.read_laws.proofs.Bounds.{AreBytes, taken, dropped, word_below, word_is}
use Rattle.read_laws.proofs.FieldBounds.{AreUnits}
use Rattle.read_laws.proofs.Readings.{Reads, anything, itself, weaker, done, next, lifted}

-- ---- units

of_two : (bytes : List ℕ) → from_le_bytes w16 bytes ≡ slice_index bytes 0 + 256 * slice_index bytes 1
of_two bytes = omega arith

half_below : (bytes : List ℕ) (at n : ℕ) → half_at bytes at ≡ Ok n → AreBytes bytes → n < 65536
half_below bytes at n h are =
    let is : Is16 bytes at n = (raised of_base (u16_at bytes at) (finds (u16_at bytes at) (is_16 bytes at))).found n h in
    let two = taken 2 (drop at bytes) (dropped at bytes are) in
    omega (arith, is.spelled, of_two (take 2 (drop at bytes)), two 0, two 1)

record IsText (bytes : List ℕ) (n : ℕ) (units : List ℕ) : Type 0 where
  pub small : AreBytes bytes → AreUnits units
  pub long : length units ≡ n

no_units : AreUnits []
no_units i = omega arith

more_units : (u : ℕ) (us : List ℕ) → u < 65536 → AreUnits us → AreUnits (u ∷ us)
more_units u us h are zero = h
more_units u us h are (suc i) = are i

reads_units : (bytes : List ℕ) (at from n : ℕ) → Reads (IsText bytes n) (each (λ i. half_at bytes (at + 2 * i)) from n)
reads_units bytes at from zero = weaker (each (λ i. half_at bytes (at + 2 * i)) from zero) (done []) (λ y e. subst (IsText bytes 0) (sym e) (record { small = λ are. no_units; long = refl }))
reads_units bytes at from (suc n) = weaker (each (λ i. half_at bytes (at + 2 * i)) from (suc n))
    (next (itself (half_at bytes (at + 2 * from))) (λ u _. next (reads_units bytes at (suc from) n) (λ us _. done (u ∷ us))))
    (λ y q. subst (IsText bytes (suc n)) (sym q.2.2) (record { small = λ are. more_units q.0 q.2.0 (half_below bytes (at + 2 * from) q.0 q.1 are) (q.2.1.small are); long = ap suc q.2.1.long }))

reads_text : (bytes : List ℕ) (at n : ℕ) → Reads (IsText bytes n) (units_at bytes at n)
unfolding units_at
reads_text bytes at n = reads_units bytes at 0 n

pub reads_item : (bytes : List ℕ) (at : ℕ) → Reads (λ item. AreBytes bytes → item.size < 2 ^ 32) (item_at bytes at)
unfolding item_at
reads_item bytes at = weaker (item_at bytes at)
    (next (anything (need_at bytes at 16)) (λ begins _.
    next (anything (half_at bytes at)) (λ registers _.
    next (anything (half_at bytes (at + 2))) (λ ins _.
    next (anything (half_at bytes (at + 6))) (λ tries _.
    next (anything (word_at bytes (at + 8))) (λ debug _.
    next (itself (word_at bytes (at + 12))) (λ size _.
    next (anything (need_at bytes at (16 + 2 * size + gap tries size + 8 * tries))) (λ whole _.
    done (record { registers = registers; ins = ins; tries = tries; debug = debug; size = size; units_at = at + 16; tries_at = at + (16 + 2 * size + gap tries size) })))))))))
    (λ y q. let size = q.2.2.2.2.2 in
    subst (λ (item : CodeItem). AreBytes bytes → item.size < 2 ^ 32) (sym size.2.2) (λ are. word_below bytes are (at + 12) size.0 (word_is bytes (at + 12) size.0 size.1)))

-- ---- the frame of a body

abbrev pub HasFrame : ℕ → ℕ → Body → Type 0
HasFrame registers ins b = (b.registers ≡ registers) × (b.ins ≡ ins)

reads_inside : (tries : List ℕ) (sizes : Sizes) (places : Places) → Reads (HasFrame sizes.registers sizes.ins) (code.body_at tries sizes places)
unfolding code.body_at
reads_inside tries sizes places = weaker (code.body_at tries sizes places)
    (next (anything (check_payloads places 67108864 places.starts)) (λ checked _.
    next (anything (insns_of places sizes)) (λ insns _.
    next (anything (check_targets places.starts insns)) (λ inside _.
    next (anything (check_flow places.units places.starts insns)) (λ flows _.
    next (anything (placed places.starts insns (regions_of tries sizes places))) (λ regions _. done (body sizes insns regions)))))))
    (λ y q. subst (HasFrame sizes.registers sizes.ins) (sym q.2.2.2.2.2) (refl, refl))

reads_code : (units tries : List ℕ) (sizes : Sizes) → Reads (λ r. HasFrame sizes.registers sizes.ins r.0) (code_of units tries sizes)
unfolding code_of
reads_code units tries sizes = weaker (code_of units tries sizes)
    (next (anything (sweep_of units)) (λ places _. next (reads_inside tries sizes places) (λ b _. done (b, places.starts))))
    (λ y q. subst (λ (r : Body × List ℕ). HasFrame sizes.registers sizes.ins r.0) (sym q.2.2) q.2.1)

-- ---- the body

pub record IsCode (bytes : List ℕ) (p : Program) (item : CodeItem) (b : Body) (starts : List ℕ) : Type 0 where
  pub frame : HasFrame item.registers item.ins b
  pub fit : AreBytes bytes → body_fits p b ≡ true
  pub as_many : length b.insns ≡ length starts

within : (p : Program) (item : CodeItem) (left : ℕ) → AreWithin p (sizes_for p item left)
within p item left = record {
  strings = min-le_left (length p.strings) 4294967295;
  types = min-le_left (length p.types) 4294967295;
  fields = min-le_left (length p.fields) 4294967295;
  methods = min-le_left (length p.methods) 4294967295;
}

code_is : (bytes : List ℕ) (p : Program) (item : CodeItem) (left : ℕ) (units tries : List ℕ) (b : Body) (starts : List ℕ) → (AreBytes bytes → item.size < 2 ^ 32) → IsText bytes item.size units
    → code_of units tries (sizes_for p item left) ≡ Ok (b, starts) → IsCode bytes p item b starts
code_is bytes p item left units tries b starts few text h =
    let w : Whole units tries (sizes_for p item left) b starts = whole_of units tries (sizes_for p item left) b starts h in
    record {
      frame = (reads_code units tries (sizes_for p item left)).found (b, starts) h;
      fit = λ are. fits w.parts p (within p item left) units (text.small are) w.swept (subst (λ (n : ℕ). n < 2 ^ 32) (sym text.long) (few are));
      as_many = w.as_many;
    }

pub reads_body : (bytes : List ℕ) (p : Program) (method : ℕ) (item : CodeItem) (left : ℕ) → (AreBytes bytes → item.size < 2 ^ 32) → Reads (λ r. IsCode bytes p item r.0 r.1) (body_at bytes p method item left)
unfolding body_at
reads_body bytes p method item left few = weaker (body_at bytes p method item left)
    (next (reads_text bytes item.units_at item.size) (λ units text. lifted (of_code method)
    (weaker (code_of units (drop item.tries_at bytes) (sizes_for p item left)) (itself (code_of units (drop item.tries_at bytes) (sizes_for p item left)))
    (λ r h. code_is bytes p item left units (drop item.tries_at bytes) r.0 r.1 few text h))))
    (λ y q. q.2)
