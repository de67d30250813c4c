-- A text with its tokens and its tree.
use Rattle.std.specs.Prelude.{ℕ, List, [], ◌∷◌}
use Rattle.token_core.specs.declared.token.Token.{Token}
use Rattle.token_core.specs.declared.token.TokenKind.{TokenKind}
use Rattle.token_core.specs.declared.token.TokenKind.TheVariants.{Name, Integer, Comment, Sign, Word}
use Rattle.ll_core.specs.Derives.{Forest, Nothing, Token as Leaf, Node}

-- a token of a kind, from its first byte to behind its last
abbrev pub token : TokenKind → ℕ → ℕ → Token
token kind from upto = record { kind = kind; from = from; upto = upto }

-- the tokens of the text
unfoldable pub vehicles_tokens : List Token
vehicles_tokens =
    token (Word 84) 0 7
    ∷ token Name 8 16
    ∷ token (Sign 0) 17 18
    ∷ token (Word 37) 23 26
    ∷ token Comment 27 51
    ∷ token (Word 89) 56 63
    ∷ token (Word 57) 64 70
    ∷ token Name 71 83
    ∷ token (Sign 13) 83 85
    ∷ token (Sign 26) 85 86
    ∷ token (Sign 8) 86 87
    ∷ token (Word 86) 92 96
    ∷ token (Word 31) 97 100
    ∷ token Name 101 107
    ∷ token (Sign 0) 108 109
    ∷ token (Word 17) 118 127
    ∷ token Name 128 133
    ∷ token (Sign 12) 134 135
    ∷ token Name 136 143
    ∷ token (Sign 17) 144 145
    ∷ token Integer 146 148
    ∷ token (Sign 8) 148 149
    ∷ token (Sign 1) 154 155
    ∷ token (Word 86) 160 164
    ∷ token (Word 31) 165 168
    ∷ token Name 169 176
    ∷ token (Sign 0) 177 178
    ∷ token (Word 17) 187 196
    ∷ token Name 197 201
    ∷ token (Sign 12) 202 203
    ∷ token Name 204 211
    ∷ token (Word 32) 212 219
    ∷ token (Sign 17) 220 221
    ∷ token Integer 222 226
    ∷ token (Sign 8) 226 227
    ∷ token (Word 86) 236 240
    ∷ token Name 241 247
    ∷ token (Sign 12) 248 249
    ∷ token Name 250 256
    ∷ token (Sign 2) 257 258
    ∷ token Integer 258 259
    ∷ token (Sign 3) 259 260
    ∷ token (Sign 8) 260 261
    ∷ token (Word 17) 270 279
    ∷ token Name 280 285
    ∷ token (Sign 12) 286 287
    ∷ token Name 288 295
    ∷ token (Sign 17) 296 297
    ∷ token Name 298 302
    ∷ token (Sign 24) 303 304
    ∷ token Name 305 311
    ∷ token (Sign 10) 311 312
    ∷ token Name 312 317
    ∷ token (Sign 8) 317 318
    ∷ token (Sign 1) 323 324
    ∷ token (Word 86) 329 333
    ∷ token (Word 31) 334 337
    ∷ token Name 338 341
    ∷ token (Sign 14) 342 344
    ∷ token Name 345 352
    ∷ token (Sign 0) 353 354
    ∷ token (Word 17) 363 372
    ∷ token (Sign 15) 373 376
    ∷ token Name 377 381
    ∷ token (Sign 17) 382 383
    ∷ token Integer 384 388
    ∷ token (Sign 8) 388 389
    ∷ token (Word 86) 398 402
    ∷ token Name 403 409
    ∷ token (Sign 2) 410 411
    ∷ token Integer 411 412
    ∷ token (Sign 3) 412 413
    ∷ token (Sign 12) 414 415
    ∷ token Name 416 421
    ∷ token (Sign 8) 421 422
    ∷ token (Sign 1) 427 428
    ∷ token (Word 86) 433 437
    ∷ token (Word 31) 438 441
    ∷ token Name 442 447
    ∷ token (Sign 8) 447 448
    ∷ token (Sign 1) 449 450
    ∷ []

-- and their tree, by the numbers of productions
unfoldable pub vehicles_tree : Forest
vehicles_tree =
    Node 0 (Node 132 (Node 1 (Node 135 Nothing (Node 72 (Node 18 (Leaf 344 (Node 11 (Node 145 Nothing (Node 146 (Leaf 0 Nothing) Nothing)) (Node 20
    (Leaf 4 (Node 132 (Node 1 (Node 135 Nothing (Node 71 (Node 12 (Leaf 297 (Node 11 (Node 145 Nothing (Node 147 Nothing Nothing)) (Node 16 (Node 153
    Nothing Nothing) (Leaf 3 Nothing)))) Nothing) Nothing)) (Node 132 (Node 1 (Node 134 (Node 4 (Leaf 349 Nothing) Nothing) (Node 69 (Node 5 (Leaf
    317 (Node 137 Nothing (Node 139 Nothing (Leaf 0 (Node 6 (Node 140 (Leaf 17 (Node 8 (Leaf 30 (Node 143 Nothing Nothing)) Nothing)) Nothing) (Leaf
    12 Nothing)))))) Nothing) Nothing)) (Node 132 (Node 1 (Node 135 Nothing (Node 73 (Node 78 (Node 88 (Node 102 (Node 93 (Leaf 346 Nothing) (Node
    240 (Leaf 291 (Node 107 (Node 11 (Node 145 Nothing (Node 146 (Leaf 0 Nothing) Nothing)) (Node 26 (Node 161 Nothing Nothing) Nothing)) (Node 20
    (Leaf 4 (Node 132 (Node 1 (Node 135 Nothing (Node 73 (Node 78 (Node 88 (Node 102 (Node 90 (Leaf 277 Nothing) (Node 241 (Node 42 (Node 41 (Node 11
    (Node 145 Nothing (Node 146 (Leaf 0 Nothing) Nothing)) (Node 27 (Node 164 (Node 28 (Node 67 (Leaf 16 Nothing) (Node 21 (Node 139 Nothing (Leaf 0
    (Node 157 Nothing Nothing))) (Node 151 Nothing Nothing))) (Node 165 Nothing Nothing)) (Node 167 Nothing Nothing)) Nothing)) (Node 40 (Node 186
    (Node 188 (Leaf 21 (Node 49 (Node 50 (Node 51 (Node 52 (Node 53 (Node 54 (Node 55 (Node 56 (Node 57 (Node 59 (Node 60 (Leaf 1 Nothing) Nothing)
    (Node 219 Nothing Nothing)) (Node 215 Nothing Nothing)) (Node 209 Nothing Nothing)) (Node 205 Nothing Nothing)) (Node 201 Nothing Nothing)) (Node
    199 Nothing Nothing)) (Node 195 Nothing Nothing)) (Node 193 Nothing Nothing)) Nothing) Nothing)) Nothing) Nothing) (Node 19 (Leaf 12 Nothing)
    Nothing))) Nothing) Nothing)) Nothing) Nothing) Nothing) Nothing)) (Node 133 Nothing Nothing)) (Leaf 5 Nothing))) Nothing))) Nothing)) Nothing)
    Nothing) Nothing) Nothing)) (Node 132 (Node 1 (Node 135 Nothing (Node 73 (Node 78 (Node 88 (Node 102 (Node 93 (Leaf 346 Nothing) (Node 240 (Leaf
    291 (Node 107 (Node 11 (Node 145 Nothing (Node 146 (Leaf 0 Nothing) Nothing)) (Node 26 (Node 161 Nothing Nothing) Nothing)) (Node 20 (Leaf 4
    (Node 132 (Node 1 (Node 135 Nothing (Node 73 (Node 78 (Node 88 (Node 102 (Node 90 (Leaf 277 Nothing) (Node 241 (Node 42 (Node 41 (Node 11 (Node
    145 Nothing (Node 146 (Leaf 0 Nothing) Nothing)) (Node 27 (Node 164 (Node 28 (Node 67 (Leaf 16 Nothing) (Node 21 (Node 139 Nothing (Leaf 0 (Node
    157 Nothing Nothing))) (Node 151 Nothing Nothing))) (Node 165 Nothing Nothing)) (Node 167 Nothing Nothing)) Nothing)) (Node 40 (Node 186 (Node
    189 (Leaf 292 (Node 190 (Leaf 21 Nothing) (Node 49 (Node 50 (Node 51 (Node 52 (Node 53 (Node 54 (Node 55 (Node 56 (Node 57 (Node 59 (Node 60
    (Leaf 1 Nothing) Nothing) (Node 219 Nothing Nothing)) (Node 215 Nothing Nothing)) (Node 209 Nothing Nothing)) (Node 205 Nothing Nothing)) (Node
    201 Nothing Nothing)) (Node 199 Nothing Nothing)) (Node 195 Nothing Nothing)) (Node 193 Nothing Nothing)) Nothing) Nothing))) Nothing) Nothing)
    (Node 19 (Leaf 12 Nothing) Nothing))) Nothing) Nothing)) Nothing) Nothing) Nothing) Nothing)) (Node 132 (Node 1 (Node 135 Nothing (Node 73 (Node
    78 (Node 88 (Node 102 (Node 93 (Leaf 346 Nothing) (Node 241 (Node 42 (Node 41 (Node 11 (Node 145 Nothing (Node 146 (Leaf 0 Nothing) Nothing))
    (Node 27 (Node 164 (Node 28 (Node 67 (Leaf 16 Nothing) (Node 21 (Node 139 Nothing (Leaf 0 (Node 157 Nothing Nothing))) (Node 151 Nothing
    Nothing))) (Node 165 Nothing Nothing)) (Node 166 (Node 32 (Leaf 6 (Node 37 (Node 38 (Leaf 1 Nothing) (Node 183 Nothing Nothing)) (Leaf 7 (Node
    177 Nothing Nothing)))) (Node 165 Nothing Nothing)) Nothing)) Nothing)) (Node 40 (Node 187 Nothing Nothing) (Node 19 (Leaf 12 Nothing) Nothing)))
    Nothing) Nothing)) Nothing) Nothing) Nothing) Nothing)) (Node 132 (Node 1 (Node 135 Nothing (Node 73 (Node 78 (Node 88 (Node 102 (Node 90 (Leaf
    277 Nothing) (Node 241 (Node 42 (Node 41 (Node 11 (Node 145 Nothing (Node 146 (Leaf 0 Nothing) Nothing)) (Node 27 (Node 164 (Node 28 (Node 67
    (Leaf 16 Nothing) (Node 21 (Node 139 Nothing (Leaf 0 (Node 157 Nothing Nothing))) (Node 151 Nothing Nothing))) (Node 165 Nothing Nothing)) (Node
    167 Nothing Nothing)) Nothing)) (Node 40 (Node 186 (Node 188 (Leaf 21 (Node 49 (Node 50 (Node 51 (Node 52 (Node 53 (Node 54 (Node 55 (Node 56
    (Node 57 (Node 59 (Node 65 (Node 22 (Node 21 (Node 139 Nothing (Leaf 0 (Node 157 Nothing Nothing))) (Node 159 Nothing Nothing)) Nothing) Nothing)
    (Node 219 Nothing Nothing)) (Node 214 (Node 216 (Leaf 28 Nothing) (Node 57 (Node 59 (Node 65 (Node 22 (Node 21 (Node 139 Nothing (Leaf 0 (Node
    157 Nothing Nothing))) (Node 158 (Leaf 14 (Leaf 0 (Node 159 Nothing Nothing))) Nothing)) Nothing) Nothing) (Node 219 Nothing Nothing)) (Node 215
    Nothing Nothing))) Nothing)) (Node 209 Nothing Nothing)) (Node 205 Nothing Nothing)) (Node 201 Nothing Nothing)) (Node 199 Nothing Nothing))
    (Node 195 Nothing Nothing)) (Node 193 Nothing Nothing)) Nothing) Nothing)) Nothing) Nothing) (Node 19 (Leaf 12 Nothing) Nothing))) Nothing)
    Nothing)) Nothing) Nothing) Nothing) Nothing)) (Node 133 Nothing Nothing)) Nothing)) Nothing)) (Leaf 5 Nothing))) Nothing))) Nothing)) Nothing)
    Nothing) Nothing) Nothing)) (Node 132 (Node 1 (Node 135 Nothing (Node 73 (Node 78 (Node 88 (Node 102 (Node 93 (Leaf 346 Nothing) (Node 240 (Leaf
    291 (Node 107 (Node 11 (Node 145 Nothing (Node 146 (Leaf 0 Nothing) Nothing)) (Node 26 (Node 160 (Node 162 (Leaf 18 Nothing) (Node 21 (Node 139
    Nothing (Leaf 0 (Node 157 Nothing Nothing))) (Node 151 Nothing Nothing))) Nothing) Nothing)) (Node 20 (Leaf 4 (Node 132 (Node 1 (Node 135 Nothing
    (Node 73 (Node 78 (Node 88 (Node 102 (Node 90 (Leaf 277 Nothing) (Node 241 (Node 42 (Node 41 (Node 11 (Node 145 Nothing (Node 147 Nothing
    Nothing)) (Node 27 (Node 164 (Node 30 (Node 172 (Leaf 19 Nothing) (Node 21 (Node 139 Nothing (Leaf 0 (Node 157 Nothing Nothing))) (Node 151
    Nothing Nothing))) (Node 165 Nothing Nothing)) (Node 167 Nothing Nothing)) Nothing)) (Node 40 (Node 186 (Node 188 (Leaf 21 (Node 49 (Node 50
    (Node 51 (Node 52 (Node 53 (Node 54 (Node 55 (Node 56 (Node 57 (Node 59 (Node 60 (Leaf 1 Nothing) Nothing) (Node 219 Nothing Nothing)) (Node 215
    Nothing Nothing)) (Node 209 Nothing Nothing)) (Node 205 Nothing Nothing)) (Node 201 Nothing Nothing)) (Node 199 Nothing Nothing)) (Node 195
    Nothing Nothing)) (Node 193 Nothing Nothing)) Nothing) Nothing)) Nothing) Nothing) (Node 19 (Leaf 12 Nothing) Nothing))) Nothing) Nothing))
    Nothing) Nothing) Nothing) Nothing)) (Node 132 (Node 1 (Node 135 Nothing (Node 73 (Node 78 (Node 88 (Node 102 (Node 93 (Leaf 346 Nothing) (Node
    241 (Node 42 (Node 41 (Node 11 (Node 145 Nothing (Node 146 (Leaf 0 Nothing) Nothing)) (Node 27 (Node 165 Nothing (Node 166 (Node 32 (Leaf 6 (Node
    37 (Node 38 (Leaf 1 Nothing) (Node 183 Nothing Nothing)) (Leaf 7 (Node 177 Nothing Nothing)))) (Node 164 (Node 28 (Node 67 (Leaf 16 Nothing)
    (Node 21 (Node 139 Nothing (Leaf 0 (Node 157 Nothing Nothing))) (Node 151 Nothing Nothing))) (Node 165 Nothing Nothing)) Nothing)) Nothing))
    Nothing)) (Node 40 (Node 187 Nothing Nothing) (Node 19 (Leaf 12 Nothing) Nothing))) Nothing) Nothing)) Nothing) Nothing) Nothing) Nothing)) (Node
    133 Nothing Nothing)) Nothing)) (Leaf 5 Nothing))) Nothing))) Nothing)) Nothing) Nothing) Nothing) Nothing)) (Node 132 (Node 1 (Node 135 Nothing
    (Node 73 (Node 78 (Node 88 (Node 102 (Node 93 (Leaf 346 Nothing) (Node 240 (Leaf 291 (Node 107 (Node 11 (Node 145 Nothing (Node 146 (Leaf 0
    Nothing) Nothing)) (Node 26 (Node 161 Nothing Nothing) Nothing)) (Node 19 (Leaf 12 Nothing) Nothing))) Nothing)) Nothing) Nothing) Nothing)
    Nothing)) (Node 133 Nothing Nothing)) Nothing)) Nothing)) Nothing)) Nothing)) Nothing)) (Leaf 5 Nothing))) Nothing))) Nothing) Nothing)) (Node
    133 Nothing Nothing)) Nothing) Nothing
