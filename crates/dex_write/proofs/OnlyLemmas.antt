-- There is one layout of a body, one code of a method, and one plan of a class.
use Rattle.std.proofs.Common.{◌≡◌, ℕ, suc, ◌<◌, ◌≤◌, Some, None, Option, List, [], ◌∷◌, length, map, take, drop, get_or, slice_get, subst, refl, sym, ap, ◌∙◌, arith}
use Rattle.std.specs.List.{flat_map, AllByRecursion}
use Rattle.std.proofs.lemmas.Grind.{same_number_lists}
use Rattle.std.proofs.lemmas.List.{take_all}
use Rattle.std.proofs.lemmas.Option.{none-some}
use Rattle.program_model.specs.MemberRules.{proto_of}
use Rattle.program_model.specs.declared.pass.Renumber.{Renumber}
use Rattle.program_model.specs.declared.body.Body.{Body}
use Rattle.program_model.specs.declared.program.Method.{Method}
use Rattle.program_model.specs.declared.program.Class.{Class}
use Rattle.program_model.specs.declared.program.Program.{Program}
use Rattle.relax.specs.declared.layout.Layout.{Layout}
use Rattle.relax.specs.Sizes.{start, Below}
use Rattle.relax.specs.Payloads.{capped_place, payload_places, payload_end}
use Rattle.relax.specs.Far.{first_far}
use Rattle.relax.specs.Layouts.{HaveLeast, IsLaidOut, IsFarAt}
use Rattle.code_write.specs.Code.{spots_of}
use Rattle.code_write.specs.Items.{code_item}
use Rattle.dex_write.specs.declared.ordered.MethodPart.{MethodPart}
use Rattle.dex_write.specs.Plans.{Plan, spot_of}
use Rattle.dex_write.specs.Codes.{parameters_in, lines_text, IsCoded, Bodiless, Far, Laid, IsCodedIn, IsPart, IsPlan}
use Rattle.dex_write.specs.Order.{classes_at}
use Rattle.dex_write.specs.Written.{ArePlans, AreOnlyPlans}

-- ---- a layout

below_same : (ss ts : List ℕ) → Below ss ts → Below ts ss → ss ≡ ts
below_same [] [] a b = refl
below_same [] (t ∷ ts) a b = absurd a
below_same (s ∷ ss) [] a b = absurd a
below_same (s ∷ ss) (t ∷ ts) a b =
    let e : s ≡ t = omega (arith, a.0, b.0) in
    let es : ss ≡ ts = below_same ss ts a.1 b.1 in
    λ i. e i ∷ es i

sizes_same : (r : Renumber) (body : Body) (ss ts : List ℕ) → HaveLeast r body ss → HaveLeast r body ts → ss ≡ ts
sizes_same r body ss ts h k = below_same ss ts (h.least ts k.room) (k.least ss h.room)

starts_same : (r : Renumber) (body : Body) (l m : Layout) → IsLaidOut r body l → IsLaidOut r body m → l.starts.items ≡ m.starts.items
starts_same r body l m h k =
    let e : h.sizes ≡ k.sizes = sizes_same r body h.sizes k.sizes h.least k.least in
    same_number_lists l.starts.items m.starts.items (h.long ∙ sym k.long) (λ n lt.
    let n_lt : n < length body.insns = omega (arith, lt, h.long) in
    h.starts n n_lt ∙ ap (λ (ss : List ℕ). capped_place (start ss n)) e ∙ sym (k.starts n n_lt))

payloads_same : (r : Renumber) (body : Body) (l m : Layout) → IsLaidOut r body l → IsLaidOut r body m → l.payloads.items ≡ m.payloads.items
payloads_same r body l m h k =
    let e : h.sizes ≡ k.sizes = sizes_same r body h.sizes k.sizes h.least k.least in
    h.payloads ∙ ap (λ (ss : List ℕ). payload_places (start ss (length body.insns)) body.insns) e ∙ sym k.payloads

ends_same : (r : Renumber) (body : Body) (l m : Layout) → IsLaidOut r body l → IsLaidOut r body m → l.size ≡ m.size
ends_same r body l m h k =
    let e : h.sizes ≡ k.sizes = sizes_same r body h.sizes k.sizes h.least k.least in
    h.size ∙ ap (λ (ss : List ℕ). capped_place (payload_end (start ss (length body.insns)) body.insns)) e ∙ sym k.size

spots_same : (r : Renumber) (body : Body) (l m : Layout) → IsLaidOut r body l → IsLaidOut r body m → spots_of l ≡ spots_of m
spots_same r body l m h k =
    let starts_path = starts_same r body l m h k in
    let payloads_path = payloads_same r body l m h k in
    let size_path = ends_same r body l m h k in
    λ i. record { starts = starts_path i; payloads = payloads_path i; size = size_path i }

not_far : (r : Renumber) (body : Body) (position : ℕ) (l : Layout) → IsFarAt r body position → IsLaidOut r body l → ⊥
not_far r body position l h k =
    let e : k.sizes ≡ h.sizes = sizes_same r body k.sizes h.sizes k.least h.least in
    none-some h.place (sym k.near ∙ ap (λ (ss : List ℕ). first_far ss 0 body.insns) e ∙ h.far)

-- ---- a method's code

pub record AreSame (code lines more_code more_lines : List ℕ) : Type 0 where
  pub code_same : code ≡ more_code
  pub lines_same : lines ≡ more_lines

no_body : (body : Body) (o : Option Body) → o ≡ None → o ≡ Some body → ⊥
no_body body o none some = none-some body (sym none ∙ some)

abbrev body_or : Body → Option Body → Body
body_or d None = d
body_or d (Some body) = body

one_body : (a b : Body) (o : Option Body) → o ≡ Some a → o ≡ Some b → a ≡ b
one_body a b o h k = ap (body_or a) (sym h ∙ k)

laid_same : (p : Program) (r : Renumber) (m : Method) (a b : Body) (l n : Layout) → a ≡ b → IsLaidOut r a l → IsLaidOut r b n
    → AreSame (code_item r a (spots_of l) 0) (lines_text (parameters_in (proto_of p m.name)) m.lines l.starts.items) (code_item r b (spots_of n) 0) (lines_text (parameters_in (proto_of p m.name)) m.lines n.starts.items)
laid_same p r m a b l n e h k =
    let here : IsLaidOut r a n = subst (λ body. IsLaidOut r body n) (sym e) k in
    record {
      code_same = ap (λ spots. code_item r a spots 0) (spots_same r a l n h here) ∙ ap (λ body. code_item r body (spots_of n) 0) e;
      lines_same = ap (λ starts. lines_text (parameters_in (proto_of p m.name)) m.lines starts) (starts_same r a l n h here);
    }

coded_same : (p : Program) (r : Renumber) (m : Method) (code lines more_code more_lines : List ℕ) → IsCoded p r m code lines → IsCoded p r m more_code more_lines → AreSame code lines more_code more_lines
coded_same p r m code lines more_code more_lines (Bodiless none c l) (Bodiless other d n) = record { code_same = c ∙ sym d; lines_same = l ∙ sym n }
coded_same p r m code lines more_code more_lines (Bodiless none c l) (Far body at some far d n) = absurd (no_body body m.body none some)
coded_same p r m code lines more_code more_lines (Bodiless none c l) (Laid body layout some laid d n) = absurd (no_body body m.body none some)
coded_same p r m code lines more_code more_lines (Far body at some far c l) (Bodiless none d n) = absurd (no_body body m.body none some)
coded_same p r m code lines more_code more_lines (Far body at some far c l) (Far other to is goes d n) = record { code_same = c ∙ sym d; lines_same = l ∙ sym n }
coded_same p r m code lines more_code more_lines (Far body at some far c l) (Laid other layout is laid d n) = absurd (not_far r body at layout far (subst (λ b. IsLaidOut r b layout) (one_body other body m.body is some) laid))
coded_same p r m code lines more_code more_lines (Laid body layout some laid c l) (Bodiless none d n) = absurd (no_body body m.body none some)
coded_same p r m code lines more_code more_lines (Laid body layout some laid c l) (Far other to is goes d n) = absurd (not_far r other to layout goes (subst (λ b. IsLaidOut r b layout) (one_body body other m.body some is) laid))
coded_same p r m code lines more_code more_lines (Laid body layout some laid c l) (Laid other spots is lies d n) =
    let same = laid_same p r m body other layout spots (one_body body other m.body some is) laid lies in
    record { code_same = c ∙ same.code_same ∙ sym d; lines_same = l ∙ same.lines_same ∙ sym n }

coded_in_same : (p : Program) (r : Renumber) (o : Option Method) (code lines more_code more_lines : List ℕ) → IsCodedIn p r o code lines → IsCodedIn p r o more_code more_lines → AreSame code lines more_code more_lines
coded_in_same p r None code lines more_code more_lines h k = record { code_same = h.0 ∙ sym k.0; lines_same = h.1 ∙ sym k.1 }
coded_in_same p r (Some m) code lines more_code more_lines h k = coded_same p r m code lines more_code more_lines h k

-- ---- a class's methods

part_same : (p : Program) (r : Renumber) (c : Class) (m n : MethodPart) → spot_of m ≡ spot_of n → IsPart p r c m → IsPart p r c n → m ≡ n
part_same p r c m n e h k =
    let number_path : m.number ≡ n.number = ap (λ (s : ℕ × ℕ). s.0) e in
    let place_path : m.place ≡ n.place = ap (λ (s : ℕ × ℕ). s.1) e in
    let same = coded_in_same p r (slice_get c.methods m.place) m.code m.lines n.code n.lines h (subst (λ place. IsCodedIn p r (slice_get c.methods place) n.code n.lines) (sym place_path) k) in
    λ i. record { number = number_path i; place = place_path i; code = same.code_same i; lines = same.lines_same i }

parts_same : (p : Program) (r : Renumber) (c : Class) (ms ns : List MethodPart) → map spot_of ms ≡ map spot_of ns → AllByRecursion (IsPart p r c) ms → AllByRecursion (IsPart p r c) ns → ms ≡ ns
parts_same p r c [] [] e h k = refl
parts_same p r c [] (n ∷ ns) e h k = let long : 0 ≡ suc (length (map spot_of ns)) = ap (λ (l : List (ℕ × ℕ)). length l) e in absurd (omega (arith, long))
parts_same p r c (m ∷ ms) [] e h k = let long : suc (length (map spot_of ms)) ≡ 0 = ap (λ (l : List (ℕ × ℕ)). length l) e in absurd (omega (arith, long))
parts_same p r c (m ∷ ms) (n ∷ ns) e h k =
    let first : m ≡ n = part_same p r c m n (ap (λ (l : List (ℕ × ℕ)). get_or l 0 (0, 0)) e) h.0 k.0 in
    let rest : ms ≡ ns = parts_same p r c ms ns (ap (λ (l : List (ℕ × ℕ)). drop 1 l) e) h.1 k.1 in
    λ i. first i ∷ rest i

-- ---- plans

plan_same : (p : Program) (r : Renumber) (c : Class) (a b : Plan) → IsPlan p r c a → IsPlan p r c b → a ≡ b
plan_same p r c a b h k =
    let class_path : a.class ≡ b.class = h.class ∙ sym k.class in
    let statics_path : a.statics ≡ b.statics = h.statics ∙ sym k.statics in
    let fields_path : a.fields ≡ b.fields = h.fields ∙ sym k.fields in
    let directs_path : a.directs ≡ b.directs = h.directs ∙ sym k.directs in
    let methods_path : a.methods ≡ b.methods = parts_same p r c a.methods b.methods (h.methods ∙ sym k.methods) h.coded k.coded in
    λ i. record { class = class_path i; statics = statics_path i; fields = fields_path i; directs = directs_path i; methods = methods_path i }

plans_same : (p : Program) (r : Renumber) (classes : List Class) (first other : List Plan) → ArePlans p r classes first → ArePlans p r classes other → first ≡ other
plans_same p r [] [] [] h k = refl
plans_same p r [] (a ∷ later) other h k = absurd h
plans_same p r [] [] (b ∷ last) h k = absurd k
plans_same p r (c ∷ classes) [] other h k = absurd h
plans_same p r (c ∷ classes) (a ∷ later) [] h k = absurd k
plans_same p r (c ∷ classes) (a ∷ later) (b ∷ last) h k =
    let head : a ≡ b = plan_same p r c a b h.0 k.0 in
    let tail : later ≡ last = plans_same p r classes later last h.1 k.1 in
    λ i. head i ∷ tail i

pub only_plans : (p : Program) (r : Renumber) (places : List ℕ) (i : ℕ) (plans : List Plan) → length places ≤ i → ArePlans p r (flat_map (classes_at p) (take i places)) plans → AreOnlyPlans p r (flat_map (classes_at p) places) plans
only_plans p r places i plans le h =
    let all : ArePlans p r (flat_map (classes_at p) places) plans = subst (λ l. ArePlans p r (flat_map (classes_at p) l) plans) (take_all i places le) h in
    record { one = λ others k. plans_same p r (flat_map (classes_at p) places) others plans k all }
