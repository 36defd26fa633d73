-- No method number has the name and the new proto of a method that is made static.
use Rattle.std.proofs.Common.{◌≡◌, inl, inr, ℕ, Bool, true, false, nat_eq, List, ◌∷◌, length, Some, sym, ap, ◌∙◌, arith}
use Rattle.std.specs.Prelude.{◌&&◌, ◌||◌, is_some, nat_le, nat_lt, not, slice_get, sum_by}
use Rattle.std.specs.Cmp.Lexicographic.{bytes_decides}
use Rattle.lemmas.proofs.Bools.{and_both, and_left, clash, not_true}
use Rattle.lemmas.proofs.Lists.{any_at, got_short, get_there}
use Rattle.lemmas.proofs.Options.{some_same}
use Rattle.program_model.specs.Distinct.{proto_key}
use Rattle.program_model.specs.ProgramRules.{is_well_formed}
use Rattle.program_model.specs.declared.pass.Outside.{Outside}
use Rattle.program_model.specs.declared.pools.MethodName.{MethodName}
use Rattle.program_model.specs.declared.pools.Proto.{Proto}
use Rattle.program_model.specs.declared.program.Class.{Class}
use Rattle.program_model.specs.declared.program.Method.{Method}
use Rattle.program_model.specs.declared.program.Program.{Program}
use Rattle.class_defs.proofs.Positions.{FirstPlace, place_first, number_test}
use Rattle.class_defs.proofs.WellFormed.{sound}
use Rattle.facts.specs.declared.facts.Facts.{Facts}
use Rattle.static_protos.specs.Growing.{AreBehind}
use Rattle.static_protos.specs.Tables.{Tables, tables_of, wanted, is_proto, text_at, proto_at, strings_with, items_with, is_taken, has_room}
use Rattle.static_protos.proofs.Behind.{PlaceOf, placed, stays}
use Rattle.loose_methods.specs.Candidates.{may_be_static}
use Rattle.loose_methods.proofs.Differ.{same_number}
use Rattle.staticise.specs.Made.{WasLoose, IsFresh}

module _ (p : Program) (wf : is_well_formed p ≡ true) (t : Tables) (behind : AreBehind (tables_of p) t) (k : Class) (m : Method) (q : MethodName) (proto : Proto) (room : has_room p t (wanted p k m q proto) ≡ true) where
  free : is_taken p q.name (proto_at t (wanted p k m q proto)) ≡ false
  free =
      let w = wanted p k m q proto in
      let a = not (is_taken p w.name (proto_at t w)) in
      let b = is_some (text_at t w) || nat_lt (length t.strings) 65536 in
      let c = is_some (proto_at t w) || nat_lt (length t.protos) 65535 in
      let d = nat_le (sum_by length (strings_with t w)) 16777216 in
      not_true (is_taken p w.name (proto_at t w)) (and_left a b (and_left (a && b) c (and_left (a && b && c) d (and_left (a && b && c && d) (nat_le (items_with t w) 16777216) room))))

  pub room_fresh : IsFresh p q proto k
  room_fresh r other x e same f result parameters =
      let key : proto.result ∷ k.name ∷ proto.parameters ≡ proto_key x = ap (λ y. y ∷ k.name ∷ proto.parameters) (sym result) ∙ ap (λ ys. x.result ∷ ys) (sym parameters) in
      let passes : is_proto proto.result (k.name ∷ proto.parameters) x ≡ true = (bytes_decides (proto.result ∷ k.name ∷ proto.parameters) (proto_key x)).1 key in
      let there : slice_get t.protos other.proto ≡ Some x = ap (λ ys. slice_get ys other.proto) behind.protos ∙ stays p.protos behind.new other.proto x f in
      by (place_first (is_proto proto.result (k.name ∷ proto.parameters)) t.protos other.proto x there passes) passes
    where
      taken : (v : ℕ) → v ≡ other.proto → is_taken p q.name (Some v) ≡ true
      taken v s = any_at (λ y. nat_eq y.name q.name && nat_eq y.proto v) p.methods r other e (and_both (nat_eq other.name q.name) (nat_eq other.proto v) (number_test other.name q.name same) (number_test other.proto v (sym s)))

      by : FirstPlace (is_proto proto.result (k.name ∷ proto.parameters)) t.protos other.proto → is_proto proto.result (k.name ∷ proto.parameters) x ≡ true → ⊥
      by first passes = elim first.first [
        | inr s ↦ clash (is_taken p q.name (Some first.place)) (taken first.place s) (ap (is_taken p q.name) (sym first.is) ∙ free)
        | inl lt ↦ (
            let l = got_short p.protos other.proto x f in
            let y = get_there p.protos first.place (omega (arith, lt, l)) in
            let z : PlaceOf (is_proto proto.result (k.name ∷ proto.parameters)) t.protos first.place = placed (is_proto proto.result (k.name ∷ proto.parameters)) t.protos first.place first.is in
            let item : y.0 ≡ z.item = some_same y.0 z.item (sym (ap (λ ys. slice_get ys first.place) behind.protos ∙ stays p.protos behind.new first.place y.0 y.1) ∙ z.there) in
            let one : proto.result ∷ k.name ∷ proto.parameters ≡ proto_key z.item = (bytes_decides (proto.result ∷ k.name ∷ proto.parameters) (proto_key z.item)).0 z.passes in
            let two : proto.result ∷ k.name ∷ proto.parameters ≡ proto_key x = (bytes_decides (proto.result ∷ k.name ∷ proto.parameters) (proto_key x)).0 passes in
            let place : first.place ≡ other.proto = same_number proto_key p.protos first.place other.proto y.0 x (sound p wf).protos y.1 f (ap proto_key item ∙ sym one ∙ two) in
            absurd (omega (arith, lt, place))
            )
      ]

pub fresh : (p : Program) (facts : Facts) (o : Outside) (admitted : List Bool) → is_well_formed p ≡ true → (n : ℕ) (w : WasLoose p facts o admitted n) → IsFresh p w.name w.proto w.class
fresh p facts o admitted wf n w =
    let may = may_be_static p facts o admitted w.place w.class w.name w.method in
    room_fresh p wf w.tables w.behind w.class w.method w.name w.proto (right may (has_room p w.tables (wanted p w.class w.method w.name w.proto)) w.holds)
  where
    right : (a b : Bool) → (a && b) ≡ true → b ≡ true
    right true b e = e
    right false b e = absurd (cc)
