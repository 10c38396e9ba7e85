use Rattle.js_parser.proofs.scripts.+read.Given as goal

abbrev pub decreases-read : goal.decreases-read
decreases-read l = l.levels
