-- Of the lines of a report: the parts that were appended one after another are the line.
use Rattle.std.proofs.Common.{◌≡◌, ◌++◌, ℕ, List}
use Rattle.std.proofs.lemmas.List.{append_assoc}

-- three words with what stands behind each, and the end of the line
pub three_fields : (old word one word2 two word3 three end text1 text2 text3 text4 : List ℕ)
    → text1 ≡ old ++ (word ++ one) → text2 ≡ text1 ++ (word2 ++ two) → text3 ≡ text2 ++ (word3 ++ three)
    → text4 ≡ text3 ++ end
    → text4 ≡ old ++ (word ++ one ++ word2 ++ two ++ word3 ++ three ++ end)
three_fields old word one word2 two word3 three end text1 text2 text3 text4 first second third last =
    simp (last, third, second, first, append_assoc)

-- six of them
pub six_fields : (old word one word2 two word3 three word4 four word5 five word6 six end text1 text2 text3 text4 text5
    text6 text7 : List ℕ)
    → text1 ≡ old ++ (word ++ one) → text2 ≡ text1 ++ (word2 ++ two) → text3 ≡ text2 ++ (word3 ++ three)
    → text4 ≡ text3 ++ (word4 ++ four) → text5 ≡ text4 ++ (word5 ++ five) → text6 ≡ text5 ++ (word6 ++ six)
    → text7 ≡ text6 ++ end
    → text7 ≡ old ++ (word ++ one ++ word2 ++ two ++ word3 ++ three ++ word4 ++ four ++ word5 ++ five ++ word6 ++ six
    ++ end)
six_fields old word one word2 two word3 three word4 four word5 five word6 six end text1 text2 text3 text4 text5 text6
    text7 first second third fourth fifth sixth last =
    simp (last, sixth, fifth, fourth, third, second, first, append_assoc)

-- a word with what stands behind it, and three parts more
pub field_and_three : (old word one two three end text1 text2 text3 text4 : List ℕ)
    → text1 ≡ old ++ (word ++ one) → text2 ≡ text1 ++ two → text3 ≡ text2 ++ three → text4 ≡ text3 ++ end
    → text4 ≡ old ++ (word ++ one ++ two ++ three ++ end)
field_and_three old word one two three end text1 text2 text3 text4 first second third last =
    simp (last, third, second, first, append_assoc)
