-- The trees that the texts of the first worked task spell.
use Rattle.std.proofs.Common.{◌≡◌, Ok, codes, refl}
use Rattle.sexpr_text.specs.Reading.{reading}
use Rattle.sexpr_text.specs.Tokens.{class_of, folded}
use Rattle.sexpr_text.specs.Trees.{Trees, nothing, word, list}
use Rattle.witness_laws.specs.Texts.{fetch_domain_text, fetch_problem_text, fetch_streams_text}

abbrev pub domain_tree : Trees
domain_tree =
    list (word (codes "define") 1 (list (word (codes "domain") 9 (word (codes "fetch") 16 nothing)) 8 (list (word (codes ":predicates") 26 (list (word (codes "item") 39 (word (codes "?x") 44 nothing)) 38 (list (word (codes "hold") 49 (word (codes "?x") 54 (word (codes "?g") 57 nothing))) 48 (list (word (codes "grip") 62 (word (codes "?x") 67 (word (codes "?g") 70 nothing))) 61 (list (word (codes "free") 75 nothing) 74 (list (word (codes "done") 82 (word (codes "?x") 87 nothing)) 81 nothing)))))) 25 (list (word (codes ":action") 95 (word (codes "take") 103 (word (codes ":parameters") 108 (list (word (codes "?x") 121 (word (codes "?g") 124 nothing)) 120 (word (codes ":precondition") 132 (list (word (codes "and") 147 (list (word (codes "free") 152 nothing) 151 (list (word (codes "grip") 159 (word (codes "?x") 164 (word (codes "?g") 167 nothing))) 158 nothing))) 146 (word (codes ":effect") 176 (list (word (codes "and") 185 (list (word (codes "hold") 190 (word (codes "?x") 195 (word (codes "?g") 198 nothing))) 189 (list (word (codes "not") 203 (list (word (codes "free") 208 nothing) 207 nothing)) 202 nothing))) 184 nothing)))))))) 94 (list (word (codes ":action") 220 (word (codes "drop") 228 (word (codes ":parameters") 233 (list (word (codes "?x") 246 (word (codes "?g") 249 nothing)) 245 (word (codes ":precondition") 253 (list (word (codes "hold") 268 (word (codes "?x") 273 (word (codes "?g") 276 nothing))) 267 (word (codes ":effect") 284 (list (word (codes "and") 293 (list (word (codes "done") 298 (word (codes "?x") 303 nothing)) 297 (list (word (codes "free") 308 nothing) 307 (list (word (codes "not") 315 (list (word (codes "hold") 320 (word (codes "?x") 325 (word (codes "?g") 328 nothing))) 319 nothing)) 314 nothing)))) 292 nothing)))))))) 219 nothing))))) 0 nothing

abbrev pub problem_tree : Trees
problem_tree =
    list (word (codes "define") 1 (list (word (codes "problem") 9 (word (codes "one") 17 nothing)) 8 (list (word (codes ":domain") 23 (word (codes "fetch") 31 nothing)) 22 (list (word (codes ":objects") 39 (word (codes "cup") 48 nothing)) 38 (list (word (codes ":init") 56 (list (word (codes "item") 63 (word (codes "cup") 68 nothing)) 62 (list (word (codes "free") 74 nothing) 73 nothing))) 55 (list (word (codes ":goal") 82 (list (word (codes "done") 89 (word (codes "cup") 94 nothing)) 88 nothing)) 81 nothing)))))) 0 nothing

abbrev pub streams_tree : Trees
streams_tree =
    list (word (codes "define") 1 (list (word (codes "stream") 9 (word (codes "fetch") 16 nothing)) 8 (list (word (codes ":stream") 24 (word (codes "grip") 32 (word (codes ":inputs") 37 (list (word (codes "?x") 46 nothing) 45 (word (codes ":domain") 50 (list (word (codes "item") 59 (word (codes "?x") 64 nothing)) 58 (word (codes ":outputs") 70 (list (word (codes "?g") 80 nothing) 79 (word (codes ":certified") 84 (list (word (codes "grip") 96 (word (codes "?x") 101 (word (codes "?g") 104 nothing))) 95 nothing)))))))))) 23 nothing))) 0 nothing

pub domain_reads : reading fetch_domain_text ≡ Ok domain_tree
unfolding reading class_of folded
domain_reads = refl

pub problem_reads : reading fetch_problem_text ≡ Ok problem_tree
unfolding reading class_of folded
problem_reads = refl

pub streams_reads : reading fetch_streams_text ≡ Ok streams_tree
unfolding reading class_of folded
streams_reads = refl
