use Rattle.std.proofs.lemmas.Result.{IfOk-weaker, IfErr-weaker}
use Rattle.js_syntax.specs.Tree.{Trees, IsTreeOf}
use Rattle.js_scripts.specs.Says.{IsToldOf, Says}
use Rattle.js_scripts.specs.Text.{script, Reads}
use Rattle.js_scripts.proofs.ReadingLemmas.{reads_by, err_told_by, told_before}
use Rattle.js_scripts.proofs.read.read_script.Goals as goal

pub returns-in-Ok-clause-ok : goal.returns-in-Ok-clause-ok
returns-in-Ok-clause-ok c =
    let text = c.in-Ok.ensures.ok in
    IfOk-weaker c.judged.result (λ nodes. (t : Trees) → IsTreeOf c.in-Ok.parsed t → Says t (script nodes)) (λ nodes. Reads c.args.text.now (script nodes))
    (λ nodes says. reads_by (text.has) (says (text.tree) (text.is_its_tree))) c.judged.ensures.ok

pub returns-in-Ok-clause-err : goal.returns-in-Ok-clause-err
returns-in-Ok-clause-err c =
    let text = c.in-Ok.ensures.ok in
    err_told_by c.args.text.now (text.tree) c.judged.result (text.has)
    (IfErr-weaker c.judged.result (λ fault. (t : Trees) → IsTreeOf c.in-Ok.parsed t → IsToldOf t fault) (IsToldOf (text.tree))
    (λ fault told. told (text.tree) (text.is_its_tree)) c.judged.ensures.err)

pub returns-in-Err-clause-err : goal.returns-in-Err-clause-err
returns-in-Err-clause-err c = told_before c.args.text.now c.in-Err.fault c.in-Err.ensures.err
