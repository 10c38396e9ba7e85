-- What one more node, and one more part, do to the trees of a builder.
use Rattle.std.proofs.Common.{◌≡◌, ℕ, ◌+◌, ◌<◌, Bool, true, false, ◌&&◌, List, [], ◌∷◌, ◌++◌, length, get_or, refl, sym, ap, ◌∙◌, arith}
use Rattle.std.specs.Prelude.{map, nat_lt}
use Rattle.std.proofs.lemmas.List.{length-append, get_or_append_left}
use Rattle.std.proofs.Math.Seq.{get_or-append_seam}
use Rattle.std.proofs.lemmas.Bool.Decides.{nat_tests}
use Rattle.js_syntax.specs.declared.node.Node.{Node}
use Rattle.js_syntax.specs.Tree.{Trees, nothing}
use Rattle.js_lexer.specs.declared.token.Token.{Token}
use Rattle.parser_rules.specs.Work.{Part, Frame, onto, pushed, added, part_of, head_of}
use Rattle.js_parser.specs.declared.draft.Piece.{Piece}
use Rattle.js_parser.specs.declared.draft.Draft.{Draft}
use Rattle.js_parser.specs.View.{Root, none_there, root_at, root_of, trees_then, grown, part_at, parts_then, frame_of, frames_then, work_of, known, all_known}

pub grown-append : (made : List Root) (ns : List Node) (n : Node) → grown made (ns ++ n ∷ []) ≡ grown made ns ++ root_of (grown made ns) n ∷ []
unfolding grown
grown-append made [] n = refl
grown-append made (m ∷ ns) n = grown-append (made ++ root_of made m ∷ []) ns n

pub length-grown : (made : List Root) (ns : List Node) → length (grown made ns) ≡ length made + length ns
unfolding grown
length-grown made [] = omega arith
length-grown made (n ∷ ns) = omega (arith, length-grown (made ++ root_of made n ∷ []) ns, length-append made (root_of made n ∷ []))

pub parts_snoc : (made : List Root) (ps : List Piece) (p : Piece) (before : List Part) → parts_then made (ps ++ p ∷ []) before ≡ part_at made p ∷ parts_then made ps before
unfolding parts_then
parts_snoc made [] p before = refl
parts_snoc made (q ∷ ps) p before = parts_snoc made ps p (part_at made q ∷ before)

pub frames_snoc : (made : List Root) (ds : List Draft) (d : Draft) (before : List Frame) → frames_then made (ds ++ d ∷ []) before ≡ frame_of made d ∷ frames_then made ds before
unfolding frames_then
frames_snoc made [] d before = refl
frames_snoc made (e ∷ ds) d before = frames_snoc made ds d (frame_of made e ∷ before)

pub onto_parts : (made : List Root) (ps : List Piece) (before : List Part) (after : Trees) → onto (parts_then made ps before) after ≡ onto before (trees_then made (map (λ p. p.node) ps) after)
unfolding parts_then
onto_parts made [] before after = refl
onto_parts made (p ∷ ps) before after = onto_parts made ps (part_at made p ∷ before) after

-- ---- what is known stays known

pub both : (a b : Bool) → (a && b) ≡ true → (a ≡ true) × (b ≡ true)
both true true k = (refl, refl)
both true false k = absurd (let e : ⊥ = cc in e)
both false b k = absurd (let e : ⊥ = cc in e)

pub joined : (a b : Bool) → a ≡ true → b ≡ true → (a && b) ≡ true
joined a b p q = rw (p, q) refl

pub below_true : (m n : ℕ) → m < n → nat_lt m n ≡ true
below_true m n h = grind (arith, nat_tests)

pub true_below : (m n : ℕ) → nat_lt m n ≡ true → m < n
true_below m n h = grind (arith, nat_tests)

pub known_snoc : (n : ℕ) (ps : List Piece) (p : Piece) → known n ps ≡ true → p.node < n → known n (ps ++ p ∷ []) ≡ true
known_snoc n [] p k h = joined (nat_lt p.node n) true (below_true p.node n h) refl
known_snoc n (q ∷ ps) p k h = let kk : (nat_lt q.node n && known n ps) ≡ true = k in let (a, b) = both (nat_lt q.node n) (known n ps) kk in joined (nat_lt q.node n) (known n (ps ++ p ∷ [])) a (known_snoc n ps p b h)

pub known_before : (n : ℕ) (ps : List Piece) (p : Piece) → known n (ps ++ p ∷ []) ≡ true → (known n ps ≡ true) × (p.node < n)
known_before n [] p k = let kk : (nat_lt p.node n && true) ≡ true = k in (refl, true_below p.node n ((both (nat_lt p.node n) true kk).0))
known_before n (q ∷ ps) p k =
    let kk : (nat_lt q.node n && known n (ps ++ p ∷ [])) ≡ true = k in
    let (a, b) = both (nat_lt q.node n) (known n (ps ++ p ∷ [])) kk in
    let (c, d) = known_before n ps p b in
    (joined (nat_lt q.node n) (known n ps) a c, d)

pub known_more : (n : ℕ) (ps : List Piece) → known n ps ≡ true → known (n + 1) ps ≡ true
known_more n [] k = refl
known_more n (q ∷ ps) k =
    let kk : (nat_lt q.node n && known n ps) ≡ true = k in
    let (a, b) = both (nat_lt q.node n) (known n ps) kk in
    joined (nat_lt q.node (n + 1)) (known (n + 1) ps) (below_true q.node (n + 1) (omega (arith, true_below q.node n a))) (known_more n ps b)

pub all_known_snoc : (n : ℕ) (ds : List Draft) (d : Draft) → all_known n ds ≡ true → known n d.pieces ≡ true → all_known n (ds ++ d ∷ []) ≡ true
unfolding all_known
all_known_snoc n [] d k h = joined (known n d.pieces) true h refl
all_known_snoc n (e ∷ ds) d k h = let (a, b) = both (known n e.pieces) (all_known n ds) k in joined (known n e.pieces) (all_known n (ds ++ d ∷ [])) a (all_known_snoc n ds d b h)

pub all_known_before : (n : ℕ) (ds : List Draft) (d : Draft) → all_known n (ds ++ d ∷ []) ≡ true → (all_known n ds ≡ true) × (known n d.pieces ≡ true)
unfolding all_known
all_known_before n [] d k = (refl, (both (known n d.pieces) true k).0)
all_known_before n (e ∷ ds) d k =
    let (a, b) = both (known n e.pieces) (all_known n (ds ++ d ∷ [])) k in
    let (c, h) = all_known_before n ds d b in
    (joined (known n e.pieces) (all_known n ds) a c, h)

pub all_known_more : (n : ℕ) (ds : List Draft) → all_known n ds ≡ true → all_known (n + 1) ds ≡ true
unfolding all_known
all_known_more n [] k = refl
all_known_more n (e ∷ ds) k = let (a, b) = both (known n e.pieces) (all_known n ds) k in joined (known (n + 1) e.pieces) (all_known (n + 1) ds) (known_more n e.pieces a) (all_known_more n ds b)

-- ---- one more node changes no tree that was there

root_same : (made more : List Root) (n : ℕ) → n < length made → root_at (made ++ more) n ≡ root_at made n
root_same made more n h = get_or_append_left made more none_there n h

pub parts_same : (made more : List Root) (ps : List Piece) (before : List Part) → known (length made) ps ≡ true → parts_then (made ++ more) ps before ≡ parts_then made ps before
unfolding parts_then
parts_same made more [] before k = refl
parts_same made more (p ∷ ps) before k =
    let kk : (nat_lt p.node (length made) && known (length made) ps) ≡ true = k in
    let (a, b) = both (nat_lt p.node (length made)) (known (length made) ps) kk in
    let e : root_at (made ++ more) p.node ≡ root_at made p.node = root_same made more p.node (true_below p.node (length made) a) in
    parts_same made more ps (part_at (made ++ more) p ∷ before) b
    ∙ ap (λ (r : Root). parts_then made ps (record { start = p.start; head = r.head; kids = r.kids } ∷ before)) e

pub frames_same : (made more : List Root) (ds : List Draft) (before : List Frame) → all_known (length made) ds ≡ true → frames_then (made ++ more) ds before ≡ frames_then made ds before
unfolding frames_then all_known
frames_same made more [] before k = refl
frames_same made more (d ∷ ds) before k =
    let (a, b) = both (known (length made) d.pieces) (all_known (length made) ds) k in
    frames_same made more ds (frame_of (made ++ more) d ∷ before) b
    ∙ ap (λ (ps : List Part). frames_then made ds (record (frame_of made d) { parts = ps } ∷ before)) (parts_same made more d.pieces [] a)

-- ---- taking the last one

pub left_known : (n : ℕ) (old new : List Draft) (d : Draft) → old ≡ new ++ d ∷ [] → all_known n old ≡ true → all_known n new ≡ true
left_known n old new d e k = (all_known_before n new d (sym (ap (λ (ds : List Draft). all_known n ds) e) ∙ k)).0

pub last_known : (n : ℕ) (old new : List Draft) (d : Draft) → old ≡ new ++ d ∷ [] → all_known n old ≡ true → known n d.pieces ≡ true
last_known n old new d e k = (all_known_before n new d (sym (ap (λ (ds : List Draft). all_known n ds) e) ∙ k)).1

-- ---- the work

pub opened_work : (rest : List Token) (nodes : List Node) (top inner : Draft) (below new : List Draft) → new ≡ below ++ top ∷ []
    → work_of rest nodes inner new ≡ record (work_of rest nodes inner below) { below = frame_of (grown [] nodes) top ∷ frames_then (grown [] nodes) below [] }
opened_work rest nodes top inner below new e =
    ap (λ (fs : List Frame). record (work_of rest nodes inner below) { below = fs })
    (ap (λ (ds : List Draft). frames_then (grown [] nodes) ds []) e ∙ frames_snoc (grown [] nodes) below top [])

pub pushed_work : (rest : List Token) (nodes : List Node) (top new : Draft) (below : List Draft) (p : Piece) → new ≡ record top { pieces = top.pieces ++ p ∷ [] }
    → work_of rest nodes new below ≡ pushed (part_at (grown [] nodes) p) (work_of rest nodes top below)
pushed_work rest nodes top new below p e =
    ap (λ (d : Draft). work_of rest nodes d below) e
    ∙ ap (λ (ps : List Part). record (work_of rest nodes top below) { top = record (frame_of (grown [] nodes) top) { parts = ps } }) (parts_snoc (grown [] nodes) top.pieces p [])

-- the tree of the node made last
pub made_root : (nodes : List Node) (node : Node) → root_at (grown [] (nodes ++ node ∷ [])) (length nodes) ≡ root_of (grown [] nodes) node
made_root nodes node =
    let made = grown [] nodes in
    let long : length made ≡ length nodes = length-grown [] nodes ∙ omega arith in
    ap (λ (rs : List Root). root_at rs (length nodes)) (grown-append [] nodes node)
    ∙ ap (λ (i : ℕ). get_or (made ++ root_of made node ∷ []) i none_there) (sym long)
    ∙ get_or-append_seam made (root_of made node) [] none_there

-- the node of a form, as a part
abbrev pub node_from : Draft → Node
node_from d = record {
  kind = d.kind;
  name = d.name;
  name_place = d.name_place;
  names = d.names;
  places = d.places;
  number = d.number;
  kids = map (λ p. p.node) d.pieces;
  place = d.place;
}

pub made_part : (nodes : List Node) (d : Draft)
    → part_at (grown [] (nodes ++ node_from d ∷ [])) (record { node = length nodes; start = d.place }) ≡ part_of (length nodes) (frame_of (grown [] nodes) d)
made_part nodes d =
    let made = grown [] nodes in
    let long : length made ≡ length nodes = length-grown [] nodes ∙ omega arith in
    ap (λ (r : Root). record { start = d.place; head = r.head; kids = r.kids }) (made_root nodes (node_from d))
    ∙ ap (λ (n : ℕ). record { start = d.place; head = head_of n (frame_of made d); kids = trees_then made (map (λ p. p.node) d.pieces) nothing }) long
    ∙ ap (λ (k : Trees). record { start = d.place; head = head_of (length nodes) (frame_of made d); kids = k }) (sym (onto_parts made d.pieces [] nothing))

pub added_work : (rest : List Token) (nodes : List Node) (node : Node) (d top new : Draft) (below : List Draft)
    → node ≡ node_from d → new ≡ record top { pieces = top.pieces ++ record { node = length nodes; start = d.place } ∷ [] }
    → known (length nodes) top.pieces ≡ true → all_known (length nodes) below ≡ true
    → work_of rest (nodes ++ node ∷ []) new below ≡ added (frame_of (grown [] nodes) d) (work_of rest nodes top below)
added_work rest nodes node d top new below node-is new-is here there =
    let made = grown [] nodes in
    let more = grown [] (nodes ++ node_from d ∷ []) in
    let p : Piece = record { node = length nodes; start = d.place } in
    let long : length made ≡ length nodes = length-grown [] nodes ∙ omega arith in
    let more-is : more ≡ made ++ root_of made (node_from d) ∷ [] = grown-append [] nodes (node_from d) in
    let parts : parts_then more top.pieces [] ≡ parts_then made top.pieces [] =
    ap (λ (rs : List Root). parts_then rs top.pieces []) more-is
    ∙ parts_same made (root_of made (node_from d) ∷ []) top.pieces [] (ap (λ (n : ℕ). known n top.pieces) long ∙ here) in
    let frames : frames_then more below [] ≡ frames_then made below [] =
    ap (λ (rs : List Root). frames_then rs below []) more-is
    ∙ frames_same made (root_of made (node_from d) ∷ []) below [] (ap (λ (n : ℕ). all_known n below) long ∙ there) in
    let count : length (nodes ++ node_from d ∷ []) ≡ length nodes + 1 = length-append nodes (node_from d ∷ []) in
    ap (λ (n : Node). work_of rest (nodes ++ n ∷ []) new below) node-is
    ∙ ap (λ (t : Draft). work_of rest (nodes ++ node_from d ∷ []) t below) new-is
    ∙ ap (λ (n : ℕ). record { rest = rest; made = n; top = frame_of more (record top { pieces = top.pieces ++ p ∷ [] }); below = frames_then more below [] }) count
    ∙ ap (λ (fs : List Frame). record { rest = rest; made = length nodes + 1; top = frame_of more (record top { pieces = top.pieces ++ p ∷ [] }); below = fs }) frames
    ∙ ap (λ (ps : List Part). record { rest = rest; made = length nodes + 1; top = record (frame_of made top) { parts = ps }; below = frames_then made below [] })
    (parts_snoc more top.pieces p [] ∙ ap (λ (ps : List Part). part_at more p ∷ ps) parts ∙ ap (λ (q : Part). q ∷ parts_then made top.pieces []) (made_part nodes d))

pub put_known : (n : ℕ) (old new : List Draft) (d : Draft) → new ≡ old ++ d ∷ [] → all_known n old ≡ true → known n d.pieces ≡ true → all_known n new ≡ true
put_known n old new d e k h = ap (λ (ds : List Draft). all_known n ds) e ∙ all_known_snoc n old d k h

pub same_known : (n : ℕ) (old new : List Draft) → new ≡ old → all_known n old ≡ true → all_known n new ≡ true
same_known n old new e k = ap (λ (ds : List Draft). all_known n ds) e ∙ k

pub none_known : (n : ℕ) (new : List Draft) → new ≡ [] → all_known n new ≡ true
unfolding all_known
none_known n new e = ap (λ (ds : List Draft). all_known n ds) e
