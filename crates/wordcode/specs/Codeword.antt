-- Codewords. A message is a bit u and then k1 bits w; v_k is w with u added to its first bit, and v is the inner codeword that begins with v_k.
-- The codeword is u, then v with u added to its first bit, then the r2 bits of f(v_k) with u added to each. F is the field of 2^r2 elements.
use Rattle.std.specs.Prelude.{Bool, List, [], ◌∷◌, ◌++◌}
use Rattle.gf2.specs.declared.field.Field.{Field}
use Rattle.gf2.specs.Words.{bits_of}
use Rattle.gf2.specs.Fields.{width}
use Rattle.pagecode.specs.Groups.{f}
use Rattle.pagecode.specs.InnerData.{lead, each, inner_data}

-- f as r2 bits
abbrev pub f_bits : Field → List Bool → List Bool
f_bits F d = bits_of (width F) (f F d)

-- v of a message; checks gives the inner code's check bits of data bits
abbrev pub inner : (List Bool → List Bool) → List Bool → List Bool
inner checks message = inner_data message ++ checks (inner_data message)

-- u, then v with u added to its first bit, then b with u added to each bit
abbrev pub laid_out : Bool → List Bool → List Bool → List Bool
laid_out u v b = u ∷ (lead u v ++ each u b)

abbrev pub codeword : Field → (List Bool → List Bool) → List Bool → List Bool
codeword F checks [] = []
codeword F checks (u ∷ w) = laid_out u (inner checks (u ∷ w)) (f_bits F (inner_data (u ∷ w)))
