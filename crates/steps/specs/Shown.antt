-- What is shown, as the codes of its characters: 10 is a newline, 32 a space, 48 and 49 the digits 0 and 1.
use Rattle.std.specs.Prelude.{◌≡◌, ◌+◌, ◌%◌, ◌^◌, ◌<◌, ◌≤◌, ℕ, ◌*◌, ◌/◌, Bool, false, cond, List, [], ◌∷◌, ◌++◌, Option, None, Some, map, length, take, drop, slice_index_or, codes}
use Rattle.std.specs.List.{flat_map}
use Rattle.gf2.specs.declared.field.Field.{Field}
use Rattle.gf2.specs.Words.{bits, bits_of, number}
use Rattle.gf2.specs.Fields.{width, product}
use Rattle.pagecode.specs.InnerData.{each}
use Rattle.pagecode.specs.Groups.{groups, f}

-- the character 1 or 0
abbrev pub digit : Bool → ℕ
digit b = cond b 49 48

abbrev pub digits : List Bool → List ℕ
digits w = map digit w

-- a message with its v_k, of which f is made over a field, and with its inner codeword where that is known
pub record Explained : Type 0 where
  pub field : Field
  pub message : List Bool
  pub v_k : List Bool
  pub v : Option (List Bool)

-- whether the bytes hold a message of count + 1 bits and count bits of v_k, which are a run of pairs of groups
abbrev pub HasSteps : Field → List ℕ → List ℕ → ℕ → Type 0
HasSteps F message v_k count =
    (count + 1 < 2 ^ 64) × (count + 1 ≤ length (bits message)) × (count ≤ length (bits v_k)) × (count % (2 * width F) ≡ 0)

-- a name and bits
abbrev pub line : List ℕ → List Bool → List ℕ
line name w = name ++ (digits w ++ 10 ∷ [])

abbrev pub v_line : Option (List Bool) → List ℕ
v_line None = []
v_line (Some v) = line (codes "v ") v

abbrev pub u_of : Explained → Bool
u_of e = slice_index_or e.message 0 false

-- the message and its parts
abbrev pub parts_text : Explained → List ℕ
parts_text e = line (codes "message ") e.message ++ (line (codes "u ") (u_of e ∷ []) ++ (line (codes "v_k ") e.v_k ++ v_line e.v))

-- an element by its bits
abbrev pub element_text : Field → ℕ → List ℕ
element_text F a = digits (bits_of (width F) a)

abbrev pub group_list : Explained → List ℕ
group_list e = groups (width e.field) (length e.v_k / width e.field) e.v_k

-- the group with that number, counted from 0
abbrev pub group_at : Explained → ℕ → ℕ
group_at e i = number (take (width e.field) (drop (i * width e.field) e.v_k))

abbrev pub group_text : Field → ℕ → List ℕ
group_text F a = 32 ∷ element_text F a

abbrev pub groups_text : Explained → List ℕ
groups_text e = codes "groups" ++ (flat_map (group_text e.field) (group_list e) ++ 10 ∷ [])

-- two elements and their product
abbrev pub product_line : Field → ℕ → ℕ → List ℕ
product_line F a b =
    element_text F a ++ (codes " * " ++ (element_text F b ++ (codes " = " ++ (element_text F (product F a b) ++ 10 ∷ []))))

-- a line for each pair
unfoldable pub products_of : Field → List ℕ → List ℕ
products_of F [] = []
products_of F (a ∷ []) = []
products_of F (a ∷ (b ∷ s)) = product_line F a b ++ products_of F s

abbrev pub products_text : Explained → List ℕ
products_text e = products_of e.field (group_list e)

-- f, and f with u added to each of its bits
abbrev pub sum_text : Explained → List ℕ
sum_text e =
    let sum = bits_of (width e.field) (f e.field e.v_k) in
    line (codes "f ") sum ++ (codes "f with u added " ++ digits (each (u_of e) sum))

abbrev pub explained_text : Explained → List ℕ
explained_text e = parts_text e ++ (groups_text e ++ (products_text e ++ sum_text e))
