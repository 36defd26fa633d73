-- The plans that are written fit: their code items have their fixed part, and their offsets are as many as are counted.
use Rattle.std.proofs.Common.{◌≡◌, ◌≤◌, ◌+◌, ◌%◌, inl, inr, ℕ, suc, Bool, true, false, List, [], ◌∷◌, ◌++◌, length, refl, ap, length-append, arith, Option, Some, None}
use Rattle.std.specs.Prelude.{slice_get, nat_eq, nat_le}
use Rattle.std.specs.List.{AllByRecursion, flat_map}
use Rattle.insn_set.specs.declared.form.Insn.{Insn}
use Rattle.relax.specs.Payloads.{units_behind}
use Rattle.dex_pools.specs.declared.interner.Interner.{Interner}
use Rattle.program_model.specs.declared.body.Body.{Body}
use Rattle.program_model.specs.declared.pass.Renumber.{Renumber}
use Rattle.program_model.specs.declared.program.Method.{Method}
use Rattle.program_model.specs.declared.program.Class.{Class}
use Rattle.program_model.specs.declared.program.Program.{Program}
use Rattle.code_write.specs.Units.{unit_bytes, pad_to_even}
use Rattle.code_write.specs.Code.{Spots, code_text, place_at, spots_of}
use Rattle.code_write.specs.Payloads.{payload_text, payload_behind, with_payloads}
use Rattle.code_write.specs.Items.{header_units, outs_of, gap_behind, front_text, tail_text, code_end, code_item}
use Rattle.dex_write.specs.declared.ordered.MethodPart.{MethodPart}
use Rattle.dex_write.specs.Plans.{Plan}
use Rattle.dex_write.specs.Sets.{set_counts, offsets_at, size_of}
use Rattle.dex_write.specs.Codes.{IsCoded, Bodiless, Far, Laid, IsCodedIn, IsPart, parts_of}
use Rattle.dex_write.specs.File.{data_at}
use Rattle.dex_write.specs.Places.{front_of, words_behind, counts_of}
use Rattle.dex_write.specs.Written.{ArePlans}
use Rattle.write_laws.proofs.Coding.{IsWhole, AreWhole}
use Rattle.write_laws.proofs.Placing.{FitsPlans}
use Rattle.write_laws.proofs.Fitting.{sets_fit, refs_fit, directories_four}

-- ---- a code item begins with 16 bytes

padded : (bytes : List ℕ) → length bytes ≤ length (pad_to_even bytes)
padded bytes = by_test (nat_le 2 (length bytes % 4)) refl
  where
    by_test : (t : Bool) → nat_le 2 (length bytes % 4) ≡ t → length bytes ≤ length (pad_to_even bytes)
    by_test true e = rw e (omega (arith, length-append bytes (unit_bytes (0 ∷ []))))
    by_test false e = rw e (omega arith)

behind_grows : (layout : Spots) (text : List ℕ) (at : ℕ) (insn : Insn) → length text ≤ length (payload_behind layout text at insn)
behind_grows layout text at insn = by_test (nat_eq (units_behind insn) 0) refl
  where
    by_test : (t : Bool) → nat_eq (units_behind insn) 0 ≡ t → length text ≤ length (payload_behind layout text at insn)
    by_test true e = rw e (omega arith)
    by_test false e = rw e (omega (arith, padded text, length-append (pad_to_even text) (payload_text layout (place_at layout.starts layout.size at) insn)))

payloads_grow : (layout : Spots) (text : List ℕ) (at : ℕ) (insns : List Insn) → length text ≤ length (with_payloads layout text at insns)
payloads_grow layout text at [] = omega arith
payloads_grow layout text at (insn ∷ insns) = omega (arith, behind_grows layout text at insn, payloads_grow layout (payload_behind layout text at insn) (suc at) insns)

gap_grows : (regions : ℕ) (bytes : List ℕ) → length bytes ≤ length (gap_behind regions bytes)
gap_grows regions bytes = by_test (nat_eq regions 0) refl
  where
    by_test : (t : Bool) → nat_eq regions 0 ≡ t → length bytes ≤ length (gap_behind regions bytes)
    by_test true e = rw e (omega arith)
    by_test false e = rw e (padded bytes)

header_bytes : (body : Body) (outs size debug : ℕ) → length (unit_bytes (header_units body outs size debug)) ≡ 16
header_bytes body outs size debug = refl

front_long : (r : Renumber) (body : Body) (layout : Spots) (debug : ℕ) → 16 ≤ length (front_text r body layout debug)
front_long r body layout debug = omega (arith, length-append (unit_bytes (header_units body (outs_of body.insns) layout.size debug)) (code_text r layout 0 0 body.insns), header_bytes body (outs_of body.insns) layout.size debug)

pub item_long : (r : Renumber) (body : Body) (layout : Spots) (debug : ℕ) → 16 ≤ length (code_item r body layout debug)
unfolding code_item
item_long r body layout debug =
    let text : List ℕ = front_text r body layout debug in
    let all : List ℕ = with_payloads layout text 0 body.insns in
    omega (arith, front_long r body layout debug, payloads_grow layout text 0 body.insns, gap_grows (length body.regions) all, length-append (gap_behind (length body.regions) all) (tail_text r layout (code_end (length text)) body.regions))

-- ---- the parts of plans

whole_coded : (p : Program) (r : Renumber) (m : Method) (part : MethodPart) → IsCoded p r m part.code part.lines → IsWhole part
whole_coded p r m part (Bodiless a b c) = inl b
whole_coded p r m part (Far body position a b c d) = inl c
whole_coded p r m part (Laid body layout a b c d) = inr (omega (arith, ap length c, item_long r body (spots_of layout) 0))

whole_in : (p : Program) (r : Renumber) (o : Option Method) (part : MethodPart) → IsCodedIn p r o part.code part.lines → IsWhole part
whole_in p r None part h = inl h.0
whole_in p r (Some m) part h = whole_coded p r m part h

whole_parts : (p : Program) (r : Renumber) (c : Class) (ms : List MethodPart) → AllByRecursion (IsPart p r c) ms → AreWhole ms
whole_parts p r c [] h = tt
whole_parts p r c (m ∷ ms) h = (whole_in p r (slice_get c.methods m.place) m h.0, whole_parts p r c ms h.1)

whole_both : (ms ns : List MethodPart) → AreWhole ms → AreWhole ns → AreWhole (ms ++ ns)
whole_both [] ns a b = b
whole_both (m ∷ ms) ns a b = (a.0, whole_both ms ns a.1 b)

pub whole_plans : (p : Program) (r : Renumber) (classes : List Class) (plans : List Plan) → ArePlans p r classes plans → AreWhole (parts_of plans)
whole_plans p r [] [] h = tt
whole_plans p r [] (plan ∷ plans) h = absurd h
whole_plans p r (c ∷ cs) [] h = absurd h
whole_plans p r (c ∷ cs) (plan ∷ plans) h = whole_both plan.methods (parts_of plans) (whole_parts p r c plan.methods h.0.coded) (whole_plans p r cs plans h.1)

-- ---- plans fit

offsets_long : (at : ℕ) (counts : List ℕ) → length (offsets_at at counts) ≡ length counts
offsets_long at [] = refl
offsets_long at (n ∷ ns) = ap suc (offsets_long (at + size_of n) ns)

sets_long : (p : Program) (i : Interner) (plans : List Plan) → length (front_of p i plans (data_at (counts_of i plans))).sets.offsets ≡ length (flat_map set_counts plans)
unfolding front_of words_behind
sets_long p i plans = offsets_long _ (flat_map set_counts plans)

pub plans_fit : (p : Program) (i : Interner) (classes : List Class) (plans : List Plan) → ArePlans p i.numbers classes plans → FitsPlans p i plans
plans_fit p i classes plans h = record {
  refs = refs_fit plans (front_of p i plans (data_at (counts_of i plans))).sets.offsets (omega (arith, sets_long p i plans));
  sets = sets_fit i.numbers plans;
  codes = whole_plans p i.numbers classes plans h;
  directories = directories_four plans _ _;
}
