-- What the steps of a builder come to, over works as they are.
use Rattle.std.proofs.Common.{◌≡◌, ℕ, zero, suc, ◌+◌, ◌<◌, true, false, ◌&&◌, List, [], ◌∷◌, ◌++◌, length, Option, Some, None, Result, Ok, Err, slice_get, pos, refl, sym, ap, ◌∙◌, subst, arith}
use Rattle.std.specs.Prelude.{map, nat_lt, nat_eq, IfOk}
use Rattle.std.specs.Fmt.{signed_decimal}
use Rattle.js_lexer.specs.declared.token.Token.{Token}
use Rattle.js_syntax.specs.declared.node.Node.{Node}
use Rattle.js_syntax.specs.declared.kind.Kind.{Kind}
use Rattle.js_syntax.specs.declared.kind.Kind.TheVariants as kinds
use Rattle.js_syntax.specs.Tree as syntax
use Rattle.std.proofs.lemmas.List.{length-append, get_or_append_left}
use Rattle.std.proofs.Math.Seq.{get_or-append_seam}
use Rattle.js_syntax.specs.Tree.{Head, Trees, nothing, tree}
use Rattle.parser_rules.specs.declared.form.Cover.TheVariants as covers
use Rattle.parser_rules.specs.Work.{Part, Frame, Work, fresh, pushed, added, opened_at, preceded, preceded_by, closed, closed_in, paired, paired_of, pair_of, unwrapped, unwrapped_in, bare_of, bare_name, cleared, offered, offered_part, offered_as, last_name, leaf_name, shorthand_of, shorthanded, is_name, is_number, key_of, with_one_name, with_place}
use Rattle.js_parser.specs.declared.draft.Piece.{Piece}
use Rattle.js_parser.specs.declared.draft.Draft.{Draft}
use Rattle.js_parser.specs.View.{Root, root_at, root_of, none_there, grown, part_at, parts_then, frame_of, frames_then, work_of, known}
use Rattle.js_parser.proofs.Built.{frames_snoc, parts_snoc, both, true_below}

pub ok_map : {A E : Type 0} {P Q : A → Type 0} (r : Result A E) → ((a : A) → P a → Q a) → IfOk r P → IfOk r Q
ok_map (Ok a) f h = f a h
ok_map (Err e) f h = tt

-- ---- over works

pub precede_none : (kind : Kind) (w v : Work) → w.top.parts ≡ [] → v ≡ w → v ≡ preceded kind w
precede_none kind w v e same = same ∙ sym (ap (λ (ps : List Part). preceded_by kind ps w) e)

pub precede_some : (kind : Kind) (w w1 w2 w3 : Work) (p : Part) (ps : List Part) → w.top.parts ≡ p ∷ ps → w1 ≡ record w { top = record (w.top) { parts = ps } }
    → w2 ≡ opened_at kind p.start w1 → w3 ≡ pushed p w2 → w3 ≡ preceded kind w
precede_some kind w w1 w2 w3 p ps e0 e1 e2 e3 =
    e3 ∙ ap (λ (v : Work). pushed p v) (e2 ∙ ap (λ (v : Work). opened_at kind p.start v) e1) ∙ sym (ap (λ (qs : List Part). preceded_by kind qs w) e0)

pub close_none : (w v : Work) → w.below ≡ [] → v ≡ w → v ≡ closed w
close_none w v e same = same ∙ sym (ap (λ (fs : List Frame). closed_in fs w) e)

pub close_some : (w mid fin : Work) (outer : Frame) (fs : List Frame) → w.below ≡ outer ∷ fs → mid ≡ record w { top = outer; below = fs }
    → fin ≡ added w.top mid → fin ≡ closed w
close_some w mid fin outer fs e0 e1 e2 = e2 ∙ ap (λ (v : Work). added w.top v) e1 ∙ sym (ap (λ (gs : List Frame). closed_in gs w) e0)

pub pair_none : (kind : Kind) (w v : Work) → w.top.parts ≡ [] → v ≡ w → v ≡ paired kind w
pair_none kind w v e same = same ∙ sym (ap (λ (ps : List Part). paired_of kind ps w) e)

pub pair_one : (kind : Kind) (w w1 fin : Work) (b : Part) → w.top.parts ≡ b ∷ [] → w1 ≡ record w { top = record (w.top) { parts = [] } } → fin ≡ pushed b w1 → fin ≡ paired kind w
pair_one kind w w1 fin b e0 e1 e2 =
    e2 ∙ ap (λ (v : Work). pushed b v) e1 ∙ ap (λ (ps : List Part). record w { top = record (w.top) { parts = ps } }) (sym e0) ∙ sym (ap (λ (ps : List Part). paired_of kind ps w) e0)

pub pair_two : (kind : Kind) (w w1 fin : Work) (f : Frame) (a b : Part) (ps : List Part) → w.top.parts ≡ b ∷ a ∷ ps
    → w1 ≡ record w { top = record (w.top) { parts = ps } } → f ≡ pair_of kind a b → fin ≡ added f w1 → fin ≡ paired kind w
pair_two kind w w1 fin f a b ps e0 e1 ef e2 =
    e2 ∙ ap (λ (g : Frame). added g w1) ef ∙ ap (λ (v : Work). added (pair_of kind a b) v) e1 ∙ sym (ap (λ (qs : List Part). paired_of kind qs w) e0)

pub unwrap_none : (w v : Work) → w.top.parts ≡ [] → v ≡ w → v ≡ unwrapped w
unwrap_none w v e same = same ∙ sym (ap (λ (ps : List Part). unwrapped_in ps w.below w) e)

pub unwrap_alone : (w w1 fin : Work) (p : Part) (ps : List Part) → w.top.parts ≡ p ∷ ps → w.below ≡ [] → w1 ≡ record w { top = record (w.top) { parts = ps } }
    → fin ≡ pushed p w1 → fin ≡ unwrapped w
unwrap_alone w w1 fin p ps e0 eb e1 e2 =
    e2 ∙ ap (λ (v : Work). pushed p v) e1 ∙ ap (λ (qs : List Part). record w { top = record (w.top) { parts = qs } }) (sym e0)
    ∙ sym (ap (λ (qs : List Part). unwrapped_in qs w.below w) e0 ∙ ap (λ (fs : List Frame). unwrapped_in (p ∷ ps) fs w) eb)

pub unwrap_some : (w w1 fin : Work) (p : Part) (ps : List Part) (outer : Frame) (fs : List Frame) → w.top.parts ≡ p ∷ ps → w.below ≡ outer ∷ fs
    → w1 ≡ record w { top = outer; below = fs } → fin ≡ pushed (record p { start = w.top.place }) w1 → fin ≡ unwrapped w
unwrap_some w w1 fin p ps outer fs e0 eb e1 e2 =
    e2 ∙ ap (λ (v : Work). pushed (record p { start = w.top.place }) v) e1
    ∙ sym (ap (λ (qs : List Part). unwrapped_in qs w.below w) e0 ∙ ap (λ (gs : List Frame). unwrapped_in (p ∷ ps) gs w) eb)

-- ---- views

pub no_parts : (made : List Root) (ps : List Piece) → ps ≡ [] → parts_then made ps [] ≡ []
unfolding parts_then
no_parts made ps e = ap (λ (qs : List Piece). parts_then made qs []) e

pub last_part : (made : List Root) (ps qs : List Piece) (p : Piece) → ps ≡ qs ++ p ∷ [] → parts_then made ps [] ≡ part_at made p ∷ parts_then made qs []
last_part made ps qs p e = ap (λ (rs : List Piece). parts_then made rs []) e ∙ parts_snoc made qs p []

pub no_frames : (made : List Root) (ds : List Draft) → ds ≡ [] → frames_then made ds [] ≡ []
unfolding frames_then
no_frames made ds e = ap (λ (es : List Draft). frames_then made es []) e

pub last_frame : (made : List Root) (ds es : List Draft) (d : Draft) → ds ≡ es ++ d ∷ [] → frames_then made ds [] ≡ frame_of made d ∷ frames_then made es []
last_frame made ds es d e = ap (λ (fs : List Draft). frames_then made fs []) e ∙ frames_snoc made es d []

pub same_pieces : (rest : List Token) (nodes : List Node) (top : Draft) (below : List Draft) (ps : List Piece) → ps ≡ top.pieces → work_of rest nodes (record top { pieces = ps }) below ≡ work_of rest nodes top below
same_pieces rest nodes top below ps e = ap (λ (qs : List Piece). work_of rest nodes (record top { pieces = qs }) below) e

pub same_below : (rest : List Token) (nodes : List Node) (top : Draft) (below new : List Draft) → new ≡ below → work_of rest nodes top new ≡ work_of rest nodes top below
same_below rest nodes top below new e = ap (λ (ds : List Draft). work_of rest nodes top ds) e

abbrev pub fresh_draft : Kind → ℕ → Draft
fresh_draft kind place = record { kind = kind; name = None; name_place = 0; names = []; places = []; number = pos 0; place = place; cover = covers.Names; pieces = [] }

pub opens : (rest : List Token) (nodes : List Node) (top outer inner : Draft) (below new : List Draft) (kind : Kind) (place : ℕ)
    → outer ≡ top → inner ≡ fresh_draft kind place → new ≡ below ++ outer ∷ [] → work_of rest nodes inner new ≡ opened_at kind place (work_of rest nodes top below)
unfolding parts_then
opens rest nodes top outer inner below new kind place outer-is inner-is e =
    ap (λ (d : Draft). work_of rest nodes d new) inner-is
    ∙ ap (λ (fs : List Frame). record { rest = rest; made = length nodes; top = fresh kind place; below = fs })
    (last_frame (grown [] nodes) new below outer e ∙ ap (λ (d : Draft). frame_of (grown [] nodes) d ∷ frames_then (grown [] nodes) below []) outer-is)

-- the parts of a form stand before its node
pub kids_below : (n : ℕ) (ps : List Piece) → known n ps ≡ true → (k m : ℕ) → slice_get (map (λ (p : Piece). p.node) ps) k ≡ Some m → m < n
kids_below n [] h zero m e = absurd (let none : ⊥ = cc in none)
kids_below n [] h (suc k) m e = absurd (let none : ⊥ = cc in none)
kids_below n (p ∷ ps) h zero m e =
    let hh : (nat_lt p.node n && known n ps) ≡ true = h in
    let same : p.node ≡ m = cc in
    subst (λ (i : ℕ). i < n) same (true_below p.node n ((both (nat_lt p.node n) (known n ps) hh).0))
kids_below n (p ∷ ps) h (suc k) m e =
    let hh : (nat_lt p.node n && known n ps) ≡ true = h in
    kids_below n ps ((both (nat_lt p.node n) (known n ps) hh).1) k m e

-- ---- what the node of a part has

pub prefix_kept : (made : List Root) (ns : List Node) (j : ℕ) → j < length made → root_at (grown made ns) j ≡ root_at made j
unfolding grown
prefix_kept made [] j h = refl
prefix_kept made (n ∷ ns) j h =
    prefix_kept (made ++ root_of made n ∷ []) ns j (omega (arith, h, length-append made (root_of made n ∷ []))) ∙ get_or_append_left made (root_of made n ∷ []) none_there j h

head_from : (made : List Root) (ns : List Node) (i : ℕ) (node : Node) → slice_get ns i ≡ Some node → (root_at (grown made ns) (length made + i)).head ≡ syntax.head_of (length made + i) node
unfolding grown
head_from made [] zero node e = absurd (let none : ⊥ = cc in none)
head_from made [] (suc i) node e = absurd (let none : ⊥ = cc in none)
head_from made (n ∷ ns) zero node e =
    let same : n ≡ node = cc in
    let r = root_of made n in
    let at : length made + 0 ≡ length made = omega arith in
    ap (λ (k : ℕ). (root_at (grown (made ++ r ∷ []) ns) k).head) at
    ∙ ap (λ (q : Root). q.head) (prefix_kept (made ++ r ∷ []) ns (length made) (omega (arith, length-append made (r ∷ []))))
    ∙ ap (λ (q : Root). q.head) (get_or-append_seam made r [] none_there)
    ∙ ap (λ (m : Node). syntax.head_of (length made) m) same
    ∙ ap (λ (k : ℕ). syntax.head_of k node) (sym at)
head_from made (n ∷ ns) (suc i) node e =
    let r = root_of made n in
    let at : length made + suc i ≡ length (made ++ r ∷ []) + i = omega (arith, length-append made (r ∷ [])) in
    ap (λ (k : ℕ). (root_at (grown (made ++ r ∷ []) ns) k).head) at
    ∙ head_from (made ++ r ∷ []) ns i node e
    ∙ ap (λ (k : ℕ). syntax.head_of k node) (sym at)

pub head_at : (nodes : List Node) (n : ℕ) (node : Node) → slice_get nodes n ≡ Some node → (root_at (grown [] nodes) n).head ≡ syntax.head_of n node
head_at nodes n node e =
    let at : n ≡ 0 + n = omega arith in
    ap (λ (k : ℕ). (root_at (grown [] nodes) k).head) at ∙ head_from [] nodes n node e ∙ ap (λ (k : ℕ). syntax.head_of k node) (sym at)

pub bare_here : (nodes : List Node) (p : Piece) (node : Node) → slice_get nodes p.node ≡ Some node
    → bare_name (part_at (grown [] nodes) p) ≡ bare_of p.start (syntax.head_of p.node node)
bare_here nodes p node e = ap (λ (h : Head). bare_of p.start h) (head_at nodes p.node node e)

pub cleared_work : (rest : List Token) (nodes : List Node) (top : Draft) (below : List Draft) (ps : List Piece) → ps ≡ [] → work_of rest nodes (record top { pieces = ps }) below ≡ cleared (work_of rest nodes top below)
cleared_work rest nodes top below ps e =
    ap (λ (qs : List Part). record (work_of rest nodes top below) { top = record (frame_of (grown [] nodes) top) { parts = qs } }) (no_parts (grown [] nodes) ps e)

pub offer_none : (w : Work) → w.top.parts ≡ [] → w ≡ offered w
offer_none w e = sym (ap (λ (ps : List Part). offered_part ps w) e)

pub offer_as : (w v : Work) (p : Part) (ps : List Part) (name : Option (List ℕ × ℕ)) → w.top.parts ≡ p ∷ ps → name ≡ bare_name p → v ≡ offered_as name w → v ≡ offered w
offer_as w v p ps name e0 en ev = ev ∙ ap (λ (n : Option (List ℕ × ℕ)). offered_as n w) en ∙ sym (ap (λ (qs : List Part). offered_part qs w) e0)

pub shorthand_some : (w v : Work) (f : Frame) (p : List ℕ × ℕ) → Some p ≡ last_name w.top.names w.top.places → f ≡ leaf_name p.0 p.1 → v ≡ added f w → v ≡ shorthanded w
shorthand_some w v f p e0 ef ev = ev ∙ ap (λ (g : Frame). added g w) ef ∙ ap (λ (n : Option (List ℕ × ℕ)). shorthand_of n w) e0

pub shorthand_none : (w : Work) → None ≡ last_name w.top.names w.top.places → w ≡ shorthanded w
shorthand_none w e0 = ap (λ (n : Option (List ℕ × ℕ)). shorthand_of n w) e0

pub pair_frame : (made : List Root) (d : Draft) (kind : Kind) (a b : Piece) → d ≡ record (fresh_draft kind a.start) { pieces = a ∷ b ∷ [] } → frame_of made d ≡ pair_of kind (part_at made a) (part_at made b)
unfolding parts_then
pair_frame made d kind a b e = ap (λ (x : Draft). frame_of made x) e

pub plain_frame : (made : List Root) (d : Draft) (kind : Kind) (place : ℕ) → d ≡ fresh_draft kind place → frame_of made d ≡ fresh kind place
unfolding parts_then
plain_frame made d kind place e = ap (λ (x : Draft). frame_of made x) e

pub leaf_frame : (made : List Root) (d : Draft) (name : List ℕ) (place : ℕ) → d ≡ record (fresh_draft kinds.Name place) { name = Some name; name_place = place } → frame_of made d ≡ leaf_name name place
unfolding parts_then
leaf_frame made d name place e = ap (λ (x : Draft). frame_of made x) e

pub bare_hit : (start : ℕ) (h : Head) → (is_name h.kind && nat_eq start h.place) ≡ true → bare_of start h ≡ with_place h.name (Some h.place)
bare_hit start h k = rw k refl

pub bare_miss : (start : ℕ) (h : Head) → (is_name h.kind && nat_eq start h.place) ≡ false → bare_of start h ≡ None
bare_miss start h k = rw k refl

pub number_key : (t : Token) (w : Work) → is_number t.kind ≡ true → with_one_name (key_of t.kind t.text t.number) t.place w ≡ with_one_name (signed_decimal t.number) t.place w
number_key t w k = rw k refl

pub text_key : (t : Token) (w : Work) → is_number t.kind ≡ false → with_one_name (key_of t.kind t.text t.number) t.place w ≡ with_one_name t.text t.place w
text_key t w k = rw k refl
