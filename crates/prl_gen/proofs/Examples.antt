-- Worked rows of the draw and of the texts.
use Rattle.prl_base.proofs.Standard.{◌≡◌, ◌/◌, ◌^◌, [], ◌∷◌, refl, codes, digits}
use Rattle.prl_gen.specs.Vocabulary.{draw, next, instances, periods_from, equations, generated_program}

-- from the number 1: the first state, its upper bits, and the period of the one lane

next_1 : next 1 ≡ 7806831264735756412
unfolding next
next_1 = refl

upper_bits_1 : next 1 / 2 ^ 33 ≡ 908834774
unfolding next
upper_bits_1 = refl

draw_1 : draw 3 1 ≡ 2
unfolding next
draw_1 = refl

periods_1 : periods_from 1 1 ≡ 160 ∷ []
unfolding next
periods_1 = refl

instances_160 : instances 160 ≡ 100
instances_160 = refl

-- a lane reads a slower one by `*^`, and a faster one by `/^`
equations_of_four : equations (160 ∷ 40 ∷ 40 ∷ 80 ∷ []) ≡ codes "  a0 = f0(s0, 0 fby a0);\n  a1 = f1(s1, (0 fby a0) *^ 4);\n  a2 = f2(s2, 0 fby a1);\n  a3 = f3(s3, (0 fby a2) /^ 2);\n"
unfolding digits
equations_of_four = refl

program_1_1 : generated_program 1 1
    ≡ codes "imported node f0(x: int; y: int) returns (z: int) wcet 1;\nsensor s0 wcet 1;\nactuator a0 wcet 1;\nnode main(s0: rate (160, 0)) returns (a0)\nlet\n  a0 = f0(s0, 0 fby a0);\ntel\n"
unfolding next digits
program_1_1 = refl
